-- The number of each refusal.
use Rattle.std.specs.Prelude.{ℕ}
use Rattle.limits.specs.declared.Refusal.{Refusal}
use Rattle.limits.specs.declared.Refusal.TheVariants.{Bytes, Cut, Kinds, Lengths, Settings, Counts, OwnLinks, Coordinates, Links, Apart, Tables, Path, Edges, Output, Destination}
use Rattle.limits.specs.Limits.{refused_bytes, refused_cut, refused_kinds, refused_lengths, refused_settings, refused_counts, refused_own_links, refused_coordinates, refused_links, refused_apart, refused_tables, refused_path, refused_edges, refused_output, refused_destination}

abbrev pub number_of : Refusal → ℕ
number_of Bytes = refused_bytes
number_of Cut = refused_cut
number_of Kinds = refused_kinds
number_of Lengths = refused_lengths
number_of Settings = refused_settings
number_of Counts = refused_counts
number_of OwnLinks = refused_own_links
number_of Coordinates = refused_coordinates
number_of Links = refused_links
number_of Apart = refused_apart
number_of Tables = refused_tables
number_of Path = refused_path
number_of Edges = refused_edges
number_of Output = refused_output
number_of Destination = refused_destination
