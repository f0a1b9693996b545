-- The citations that a driver has taken, in their order, and the bytes that a list may write.
use Rattle.std.specs.Prelude.{ℕ, List}
use Rattle.csl_list.specs.declared.driver.BibliographyDriver.{BibliographyDriver}
use Rattle.csl_list.specs.declared.request.CitationRequest.{CitationRequest}

abbrev pub requests_of : BibliographyDriver → List CitationRequest
requests_of driver = driver.requests.items

abbrev pub limit_of : BibliographyDriver → ℕ
limit_of driver = driver.limit
