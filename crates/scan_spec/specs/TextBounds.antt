-- Statement: how many bits a code word, a coefficient and a block have at most, and how many bytes an MCU (ITU-T T.81,
-- B.2.4.2, Tables F.1 and F.2; F.1.2.3).
use Rattle.std.specs.Prelude.{ℕ, ◌+◌, ◌*◌, Bool, List, length}

-- the most bits of a code word (B.2.4.2)
abbrev pub word_bits : ℕ
word_bits = 16

-- the most bits of a DC: a word, and a difference of category 11 (Table F.1)
abbrev pub dc_bits : ℕ
dc_bits = word_bits + 11

-- the most bits of an AC coefficient: a word, and a value of category 10 (Table F.2)
abbrev pub coefficient_bits : ℕ
coefficient_bits = word_bits + 10

-- the most bits of the AC coefficients of a block
abbrev pub ac_bits : ℕ
ac_bits = 63 * coefficient_bits

-- the most bits of a block
abbrev pub block_bits : ℕ
block_bits = dc_bits + ac_bits

-- free bytes that are enough for an MCU: for 7 and 16,650 bits, stuffed, a padded byte and a marker
abbrev pub mcu_room : ℕ
mcu_room = 4168

-- quarters of a byte that were put out, a bit being one at most: eight bits are two bytes at most
abbrev pub quarters : List Bool → List ℕ → ℕ
quarters begun bytes = length begun + 4 * length bytes
