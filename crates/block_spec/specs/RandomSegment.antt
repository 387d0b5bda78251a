-- Rows: a random segment, with the stream that an independent program made of it (own).
use Rattle.std.specs.Prelude.{ℕ, List, [], ◌∷◌, ℤ, pos, negsuc, slice_set}
use Rattle.coef_block.specs.BlockRows.{no_block, extents_of}
use Rattle.block_spec.specs.Grid.{Grid}

-- two MCUs across, 4:2:0 (own)
abbrev pub two_wide : Grid
two_wide = record { across = 2; mcu = extents_of (2 ∷ 1 ∷ 1 ∷ []) (2 ∷ 1 ∷ 1 ∷ []) }

-- a block of zeros but for these values, each with its position (own); `negsuc n` is -(n + 1)
abbrev pub block_of : List (ℕ × ℤ) → List ℤ
block_of [] = no_block
block_of (v ∷ values) = slice_set (block_of values) v.0 v.1

-- two MCU rows of random blocks (own)
abbrev pub random_blocks : List (List ℤ)
random_blocks =
    block_of ((0, negsuc 38) ∷ (8, negsuc 1) ∷ (25, negsuc 0) ∷ (50, pos 27) ∷ [])
    ∷ block_of ((0, pos 256) ∷ [])
    ∷ block_of ((0, pos 287) ∷ (12, negsuc 12) ∷ [])
    ∷ block_of ((0, pos 98) ∷ (40, negsuc 738) ∷ [])
    ∷ block_of ((0, pos 155) ∷ (14, negsuc 1) ∷ [])
    ∷ block_of ((0, negsuc 79) ∷ (62, negsuc 18) ∷ [])
    ∷ block_of ((0, negsuc 96) ∷ (20, negsuc 14) ∷ [])
    ∷ block_of ((0, negsuc 277) ∷ (22, pos 365) ∷ (38, negsuc 405) ∷ [])
    ∷ block_of ((0, negsuc 232) ∷ (12, negsuc 55) ∷ (21, negsuc 38) ∷ (61, negsuc 2) ∷ [])
    ∷ block_of ((0, pos 66) ∷ (3, pos 7) ∷ (8, negsuc 2) ∷ (17, pos 805) ∷ (22, pos 1)
    ∷ (23, negsuc 8) ∷ (24, pos 30) ∷ (33, negsuc 28) ∷ (48, negsuc 801) ∷ [])
    ∷ block_of ((0, negsuc 17) ∷ [])
    ∷ block_of ((0, pos 19) ∷ (11, negsuc 0) ∷ (35, negsuc 857) ∷ (41, negsuc 0) ∷ [])
    ∷ block_of ((0, pos 115) ∷ [])
    ∷ block_of ((0, negsuc 56) ∷ (3, pos 982) ∷ (9, pos 3) ∷ (27, negsuc 89) ∷ [])
    ∷ block_of ((0, pos 277) ∷ (28, pos 2) ∷ [])
    ∷ block_of ((0, pos 81) ∷ (30, negsuc 2) ∷ [])
    ∷ block_of ((0, negsuc 126) ∷ (17, negsuc 4) ∷ (24, negsuc 35) ∷ (42, negsuc 2)
    ∷ (45, pos 6) ∷ (56, pos 578) ∷ [])
    ∷ block_of ((0, negsuc 117) ∷ [])
    ∷ block_of ((0, pos 185) ∷ (42, pos 5) ∷ (53, negsuc 4) ∷ (56, negsuc 0) ∷ [])
    ∷ block_of ((0, pos 160) ∷ (6, negsuc 443) ∷ (60, negsuc 14) ∷ (63, negsuc 732) ∷ [])
    ∷ block_of ((0, pos 126) ∷ (60, pos 34) ∷ [])
    ∷ block_of ((0, pos 130) ∷ (18, pos 563) ∷ (38, pos 2) ∷ [])
    ∷ block_of ((0, negsuc 115) ∷ [])
    ∷ block_of ((0, pos 182) ∷ (8, negsuc 1) ∷ []) ∷ []

-- their stream: 1,626 bools with 1,350 shifts (own)
abbrev pub random_stream : List ℕ
random_stream =
    8 ∷ 80 ∷ 0 ∷ 3 ∷ 229 ∷ 131 ∷ 175 ∷ 211 ∷ 128 ∷ 7 ∷ 241 ∷ 85 ∷ 4 ∷ 30 ∷ 149 ∷ 131 ∷ 159 ∷ 194 ∷
    231 ∷ 190 ∷ 232 ∷ 111 ∷ 97 ∷ 7 ∷ 248 ∷ 3 ∷ 51 ∷ 125 ∷ 136 ∷ 167 ∷ 176 ∷ 0 ∷ 0 ∷ 0 ∷ 1 ∷ 236 ∷
    242 ∷ 32 ∷ 97 ∷ 194 ∷ 8 ∷ 26 ∷ 206 ∷ 60 ∷ 240 ∷ 0 ∷ 0 ∷ 175 ∷ 177 ∷ 94 ∷ 5 ∷ 126 ∷ 87 ∷ 38 ∷
    111 ∷ 48 ∷ 105 ∷ 120 ∷ 56 ∷ 148 ∷ 236 ∷ 0 ∷ 7 ∷ 187 ∷ 152 ∷ 139 ∷ 204 ∷ 143 ∷ 184 ∷ 159 ∷ 82 ∷
    206 ∷ 8 ∷ 110 ∷ 83 ∷ 44 ∷ 184 ∷ 9 ∷ 6 ∷ 255 ∷ 21 ∷ 47 ∷ 140 ∷ 78 ∷ 0 ∷ 80 ∷ 141 ∷ 145 ∷ 144 ∷
    129 ∷ 151 ∷ 246 ∷ 153 ∷ 47 ∷ 15 ∷ 245 ∷ 255 ∷ 90 ∷ 47 ∷ 43 ∷ 80 ∷ 144 ∷ 233 ∷ 144 ∷ 9 ∷ 222 ∷
    69 ∷ 129 ∷ 225 ∷ 26 ∷ 2 ∷ 1 ∷ 199 ∷ 46 ∷ 56 ∷ 5 ∷ 96 ∷ 8 ∷ 4 ∷ 25 ∷ 127 ∷ 4 ∷ 34 ∷ 236 ∷ 220 ∷
    4 ∷ 161 ∷ 175 ∷ 31 ∷ 216 ∷ 120 ∷ 34 ∷ 149 ∷ 6 ∷ 229 ∷ 115 ∷ 171 ∷ 137 ∷ 42 ∷ 128 ∷ 0 ∷ 0 ∷
    145 ∷ 6 ∷ 143 ∷ 199 ∷ 68 ∷ 189 ∷ 202 ∷ 58 ∷ 172 ∷ 100 ∷ 0 ∷ 54 ∷ 110 ∷ 174 ∷ 56 ∷ 132 ∷ 249 ∷
    210 ∷ 224 ∷ 99 ∷ 161 ∷ 193 ∷ 38 ∷ 88 ∷ 20 ∷ 250 ∷ 88 ∷ 80 ∷ []
