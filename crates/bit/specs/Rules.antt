-- The four-state bit of document 01, "Bit code": its code and the single-bit rules (IEEE 1800-2017, 11.4.8 and 11.4.11), in the paper's words.
use Rattle.std.specs.Prelude.{ℕ, zero, suc, ◌%◌, Bool, true, false, ◌&&◌, ◌||◌, cond, List, [], eqb, get_or}
use Rattle.bit.specs.declared.LogicBit.{LogicBit}
use Rattle.bit.specs.declared.LogicBit.TheVariants.{Zero, One, X, Z}

-- 0 and 1 are known, 2 is x, 3 is z
abbrev pub code : LogicBit → ℕ
code Zero = 0
code One = 1
code X = 2
code Z = 3

-- the bit of a code below 4, and z from 3 on
abbrev pub of_small_code : ℕ → LogicBit
of_small_code zero = Zero
of_small_code (suc zero) = One
of_small_code (suc (suc zero)) = X
of_small_code (suc (suc (suc n))) = Z

-- the bit of a code; a number above 3 is taken modulo 4
abbrev pub of_code : ℕ → LogicBit
of_code n = of_small_code (n % 4)

-- what stands at row a and column b of a table of four rows of four
abbrev pub entry : List (List ℕ) → LogicBit → LogicBit → ℕ
entry t a b = get_or (get_or t (code a) []) (code b) 0

abbrev pub same : LogicBit → LogicBit → Bool
same a b = eqb (code a) (code b)

abbrev pub known : LogicBit → Bool
known Zero = true
known One = true
known X = false
known Z = false

-- 0 if either is 0, 1 if both are 1, else x
abbrev pub and_bit : LogicBit → LogicBit → LogicBit
and_bit a b = cond (same a Zero || same b Zero) Zero (cond (same a One && same b One) One X)

-- 1 if either is 1, 0 if both are 0, else x
abbrev pub or_bit : LogicBit → LogicBit → LogicBit
or_bit a b = cond (same a One || same b One) One (cond (same a Zero && same b Zero) Zero X)

-- x if either is unknown, else 1 if they differ, else 0
abbrev pub xor_bit : LogicBit → LogicBit → LogicBit
xor_bit a b = cond (known a && known b) (cond (same a b) Zero One) X

-- the bit if both are known and equal, else x; so z with z is x (IEEE 1800-2017, 11.4.11)
abbrev pub merge_bit : LogicBit → LogicBit → LogicBit
merge_bit a b = cond (known a && (known b && same a b)) a X

-- 0 gives 1, 1 gives 0, z and x both give x
abbrev pub not_bit : LogicBit → LogicBit
not_bit Zero = One
not_bit One = Zero
not_bit X = X
not_bit Z = X
