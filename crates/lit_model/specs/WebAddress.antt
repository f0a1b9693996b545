-- A text is the address of a web page if it parses, without a base, to an absolute URL with the
-- scheme `http` or `https`, and is written with that scheme and `//` (URL Standard, 4.1 and 4.4).
-- Without `//` the parser takes the address of a base with the same scheme for its start, so a link
-- leads into the site of its page. HTML allows ASCII white space around an address.
use Rattle.std.specs.Prelude.{◌≡◌, ◌⊎◌, ℕ, List, None, Ok, codes, drop, length, map, take}
use Rattle.std.specs.Char.{is_ascii_whitespace, to_ascii_lowercase}
use Rattle.std.specs.List.{prefix_len}
use Rattle.url.specs.Parser.{parse_url}
use Rattle.url.specs.Parts.{Parts}

-- the text without the ASCII white space at its start
abbrev pub trimmed : List ℕ → List ℕ
trimmed text = drop (prefix_len is_ascii_whitespace text) text

-- the text begins so, letters in either case, after any ASCII white space
abbrev pub BeginsWith : List ℕ → List ℕ → Type 0
BeginsWith start text = map to_ascii_lowercase (take (length start) (trimmed text)) ≡ map to_ascii_lowercase start

-- the text begins with the scheme `http` or `https` and `//`, so its host is its own
abbrev pub HasOwnHost : List ℕ → Type 0
HasOwnHost text = BeginsWith (codes "http://") text ⊎ BeginsWith (codes "https://") text

-- the text has a host of its own, and parses to a URL with the scheme `http` or `https`
abbrev pub IsWebAddress : List ℕ → Type 0
IsWebAddress text = HasOwnHost text × (url : Parts) × (parse_url None text ≡ Ok url) × ((url.scheme ≡ codes "http") ⊎ (url.scheme ≡ codes "https"))
