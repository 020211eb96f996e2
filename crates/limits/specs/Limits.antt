-- The limits of document 01 but for the grid's (crates/grid), the sizes that follow from them, the kinds and lengths of records, and the numbers of refusals, each named once.
use Rattle.std.specs.Prelude.{ℕ, ◌+◌, ◌*◌, ◌/◌}

-- check 1
abbrev pub most_bytes : ℕ
most_bytes = 65536

-- the kinds of record; and the bytes of a record's head, of settings, of a point and of a link (checks 3 and 4)
abbrev pub kind_settings : ℕ
kind_settings = 1

abbrev pub kind_line : ℕ
kind_line = 2

abbrev pub kind_link : ℕ
kind_link = 3

-- the line that is answered
abbrev pub kind_answer : ℕ
kind_answer = 4

abbrev pub head_size : ℕ
head_size = 6

abbrev pub settings_size : ℕ
settings_size = 10

abbrev pub point_size : ℕ
point_size = 16

abbrev pub link_size : ℕ
link_size = 40

-- check 5
abbrev pub most_side : ℕ
most_side = 8192

abbrev pub most_pairing : ℕ
most_pairing = 1

abbrev pub most_flags : ℕ
most_flags = 7

-- check 6
abbrev pub most_lines : ℕ
most_lines = 256

abbrev pub most_points : ℕ
most_points = 1024

abbrev pub most_links : ℕ
most_links = 255

-- the bytes of a file with so many lines, points and links: its settings, the head of each line, the points, the links; and the most within check 6
abbrev pub file_size : ℕ → ℕ → ℕ → ℕ
file_size lines points links = head_size + settings_size + head_size * lines + point_size * points + (head_size + link_size) * links

abbrev pub most_file : ℕ
most_file = file_size most_lines most_points most_links

-- check 11
abbrev pub most_odd : ℕ
most_odd = 20

-- check 13
abbrev pub most_edges : ℕ
most_edges = 4000

-- ---- sizes that follow

-- two split points for each link, and a node for each of them and for each point
abbrev pub most_splits : ℕ
most_splits = 2 * most_links

abbrev pub most_nodes : ℕ
most_nodes = most_points + most_splits

-- each node in one pair at most
abbrev pub most_pairs : ℕ
most_pairs = most_nodes / 2

-- the walk adds the virtual edge; an edge is an arc from each of its ends; a walk has a node more than edges
abbrev pub edge_room : ℕ
edge_room = most_edges + 1

abbrev pub arc_room : ℕ
arc_room = 2 * edge_room

abbrev pub line_room : ℕ
line_room = edge_room + 1

-- ---- the numbers of the refusals

abbrev pub refused_bytes : ℕ
refused_bytes = 1

abbrev pub refused_cut : ℕ
refused_cut = 2

abbrev pub refused_kinds : ℕ
refused_kinds = 3

abbrev pub refused_lengths : ℕ
refused_lengths = 4

abbrev pub refused_settings : ℕ
refused_settings = 5

abbrev pub refused_counts : ℕ
refused_counts = 6

abbrev pub refused_coordinates : ℕ
refused_coordinates = 7

abbrev pub refused_links : ℕ
refused_links = 8

abbrev pub refused_apart : ℕ
refused_apart = 9

-- 10 is given no more
abbrev pub refused_tables : ℕ
refused_tables = 11

abbrev pub refused_path : ℕ
refused_path = 12

abbrev pub refused_edges : ℕ
refused_edges = 13

abbrev pub refused_output : ℕ
refused_output = 14

abbrev pub refused_own_links : ℕ
refused_own_links = 15

-- of the writer
abbrev pub refused_destination : ℕ
refused_destination = 16
