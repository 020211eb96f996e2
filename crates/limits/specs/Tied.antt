-- What the code's constants are: the limits, sizes and numbers of the definitions.
use Rattle.limits.specs.declared.Layout.{Layout}
use Rattle.limits.specs.declared.Limits.{Limits}
use Rattle.limits.specs.declared.Refusals.{Refusals}
use Rattle.limits.specs.Limits as named

abbrev pub layout_is : Layout
layout_is = record {
  settings = named.kind_settings;
  line = named.kind_line;
  link = named.kind_link;
  answer = named.kind_answer;
  head_size = named.head_size;
  settings_size = named.settings_size;
  point_size = named.point_size;
  link_size = named.link_size;
}

abbrev pub limits_are : Limits
limits_are = record {
  bytes = named.most_bytes;
  side = named.most_side;
  pairing = named.most_pairing;
  flags = named.most_flags;
  lines = named.most_lines;
  points = named.most_points;
  links = named.most_links;
  file = named.most_file;
  odd = named.most_odd;
  edges = named.most_edges;
  splits = named.most_splits;
  nodes = named.most_nodes;
  pairs = named.most_pairs;
  edge_room = named.edge_room;
  arc_room = named.arc_room;
  line_room = named.line_room;
}

abbrev pub refusals_are : Refusals
refusals_are = record {
  bytes = named.refused_bytes;
  cut = named.refused_cut;
  kinds = named.refused_kinds;
  lengths = named.refused_lengths;
  settings = named.refused_settings;
  counts = named.refused_counts;
  coordinates = named.refused_coordinates;
  links = named.refused_links;
  apart = named.refused_apart;
  tables = named.refused_tables;
  path = named.refused_path;
  edges = named.refused_edges;
  output = named.refused_output;
  own_links = named.refused_own_links;
  destination = named.refused_destination;
}
