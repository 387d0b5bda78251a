-- Statement: how many values each part of a context has, and where the run of each shape of context begins
-- (docs/FORMAT.md, Bins).
use Rattle.std.specs.Prelude.{ℕ}

-- the sizes of a count of up to 49, from 0 to 6
abbrev pub count_sizes : ℕ
count_sizes = 7

-- the nodes of an inner count of six bits, from 1 to 63
abbrev pub inner_nodes : ℕ
inner_nodes = 63

-- the nodes of an edge's count of three bits, from 1 to 7
abbrev pub edge_nodes : ℕ
edge_nodes = 7

-- the places of the inner coefficients, from 0 to 48
abbrev pub inner_values : ℕ
inner_values = 49

-- the row edge and the column edge
abbrev pub edges : ℕ
edges = 2

-- the places of an edge's coefficients, from 0 to 6
abbrev pub edge_values : ℕ
edge_values = 7

-- the weights of the neighbours, from 0 to 10
abbrev pub weights : ℕ
weights = 11

-- the sizes of how many inner coefficients remain, from 1 to 6
abbrev pub inner_remain_sizes : ℕ
inner_remain_sizes = 6

-- the sizes of how many of an edge's coefficients remain, from 1 to 3
abbrev pub edge_remain_sizes : ℕ
edge_remain_sizes = 3

-- the sizes of an AC coefficient that isn't 0, from 1 to 10; it has 10 steps too, from 0 to 9
abbrev pub ac_sizes : ℕ
ac_sizes = 10

-- the spreads of the DCs around, from 0 to 16
abbrev pub spreads : ℕ
spreads = 17

-- the sizes of a residue that isn't 0, from 1 to 16; it has 16 steps too, from 0 to 15
abbrev pub dc_sizes : ℕ
dc_sizes = 16

-- the lower bits of all sizes of an AC coefficient: 0 + 1 + .. + 9
abbrev pub ac_low_bits : ℕ
ac_low_bits = 45

-- the lower bits of all sizes of a residue: 0 + 1 + .. + 15
abbrev pub dc_low_bits : ℕ
dc_low_bits = 120

-- 2 * 7 * 63 bins from here on
abbrev pub inner_counts_start : ℕ
inner_counts_start = 0

-- 2 * 49 * 11 * 6 * 10 bins from here on
abbrev pub inner_steps_start : ℕ
inner_steps_start = 882

-- 2 * 2 * 7 * 7 bins from here on
abbrev pub edge_counts_start : ℕ
edge_counts_start = 65562

-- 2 * 2 * 7 * 11 * 3 * 10 bins from here on
abbrev pub edge_steps_start : ℕ
edge_steps_start = 65758

-- 2 * 17 * 16 bins from here on
abbrev pub dc_steps_start : ℕ
dc_steps_start = 74998

-- 2 * 49 * 10 bins from here on
abbrev pub inner_signs_start : ℕ
inner_signs_start = 75542

-- 2 * 49 * 45 bins from here on
abbrev pub inner_low_bits_start : ℕ
inner_low_bits_start = 76522

-- 2 * 2 * 7 * 10 bins from here on
abbrev pub edge_signs_start : ℕ
edge_signs_start = 80932

-- 2 * 2 * 7 * 45 bins from here on
abbrev pub edge_low_bits_start : ℕ
edge_low_bits_start = 81212

-- 2 * 16 bins from here on
abbrev pub dc_signs_start : ℕ
dc_signs_start = 82472

-- 2 * 120 bins from here on
abbrev pub dc_low_bits_start : ℕ
dc_low_bits_start = 82504

-- how many bins there are for all contexts of both classes
abbrev pub bin_count : ℕ
bin_count = 82744
