-- The call of a line of a table (the head of src/lib.rt): its number by its name, and which calls are read.
use Rattle.std.specs.Prelude.{ℕ, zero, suc, Bool, true, false, cond, ◌&&◌, Option, Some, None, List, [], ◌∷◌, ◌++◌, ◌==◌, nat_le}
use Prim.Native.Char.{code}
use Rattle.replay.specs.Text.{part_of, field_text}
use Rattle.text.specs.Read.{bytes}
use Rattle.replay.specs.Fields.{sizes_of}

-- whether two texts are the same
unfoldable pub same_text : List ℕ → List ℕ → Bool
same_text [] [] = true
same_text [] (b ∷ t) = false
same_text (a ∷ s) [] = false
same_text (a ∷ s) (b ∷ t) = a == b && same_text s t

-- the number of the first of n names, from number k on, that is t, if one is. A space is between names
unfoldable pub name_from : ℕ → ℕ → List ℕ → List ℕ → Option ℕ
name_from k zero names t = None
name_from k (suc n) names t = cond (same_text (part_of (code " ") k names) t) (Some k) (name_from (suc k) n names t)

-- the names of the calls, by their numbers from 0 on
abbrev pub call_names : List ℕ
call_names =
    bytes "get extract64 set splice64 splice_bits64 mask_top new zero from_u64 from_real_wrapped reduce_and reduce_or reduce_xor "
    ++ bytes "is_nonzero logic_and logic_or is_equal case_eq casez_eq casex_eq wildcard_eq "
    ++ bytes "bitwise_and bitwise_or bitwise_xor merge_unknown bitwise_not decide_equal decide_wildcard chosen_arm"

-- whether field k of a line asks for planes of at most n words
abbrev pub fits_in : ℕ → ℕ → List ℕ → Bool
fits_in k n line = nat_le (sizes_of (field_text k line)).value n && nat_le (sizes_of (field_text k line)).unknown n

-- the number of the call, which field 2 names; none where a vector asks for more words than a program lends
unfoldable pub call_of : List ℕ → Option ℕ
call_of line = cond (fits_in 3 16385 line && (fits_in 4 65 line && fits_in 5 65 line)) (name_from 0 29 call_names (field_text 2 line)) None
