-- Links to web pages at some hosts alone. The host of an address is the one that the URL Standard's
-- parser finds, as it writes it (URL Standard, 3.5 and 4.4).
use Rattle.std.specs.Prelude.{◌≡◌, ◌<◌, ℕ, List, None, Some, Ok, length, option_map}
use Rattle.std.specs.Borrow.{Bor}
use Rattle.std.specs.List.{HoldsAt}
use Rattle.url.specs.Host.{host_text}
use Rattle.url.specs.Parser.{parse_url}
use Rattle.url.specs.Parts.{Parts, nonempty_host}
use Rattle.lit_model.specs.WebAddress.{IsWebAddress}

-- the text is one of these
abbrev pub IsOneOf : List (Bor (List ℕ)) → List ℕ → Type 0
IsOneOf texts text = (k : ℕ) × (k < length texts) × HoldsAt (λ t. t.now ≡ text) texts k

-- the address parses to a URL whose host is one of these
abbrev pub HasHostAmong : List (Bor (List ℕ)) → List ℕ → Type 0
HasHostAmong hosts address =
    (url : Parts) × (parse_url None address ≡ Ok url) × (host : List ℕ) × (option_map host_text (nonempty_host url) ≡ Some host) × IsOneOf hosts host

-- the address is that of a web page at one of these hosts
abbrev pub IsWebAddressAt : List (Bor (List ℕ)) → List ℕ → Type 0
IsWebAddressAt hosts address = IsWebAddress address × HasHostAmong hosts address
