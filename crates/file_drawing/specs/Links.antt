-- The links of a file, read one after another into an array.
use Rattle.std.specs.Prelude.{ℕ, ◌≤◌, ◌≡◌, List, map, true, false, length}
use Rattle.limits.specs.Limits.{kind_link, most_links}
use Rattle.drawing_spec.specs.Read.{link_of, bodies, lengths_fit, all_links}
use Rattle.file_records.specs.Walk.{records_from, cut_from}
use Rattle.file_records.specs.Body.{edge_from}
use Rattle.file_records.specs.declared.MstEdge.{MstEdge}

abbrev pub links_from : List ℕ → ℕ → List MstEdge
links_from file at = map edge_from (map link_of (bodies kind_link (records_from file at)))

-- links from a place on, so many of them
pub record AtLinks (file : List ℕ) (at count : ℕ) : Type 0 where
  pub inside : at ≤ length file
  pub is_whole : cut_from file at ≡ false
  pub only_links : all_links (records_from file at) ≡ true
  pub lengths_fit_known : lengths_fit (records_from file at) ≡ true
  pub counted : length (bodies kind_link (records_from file at)) ≡ count
  pub few_links : count ≤ most_links
