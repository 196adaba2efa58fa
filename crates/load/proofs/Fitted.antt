-- The cells of a run as its loops keep them: laid in the arenas, and none wider than an input may be, 4,096 bits.
--     fitted_none     no cells
--     fitted-more     one cell behind the last
use mathlib.Core.Path.{◌≡◌, sym, subst}
use mathlib.Core.List.{List, [], ◌∷◌}
use Prim.Native.Nat.{ℕ, zero, suc, ◌+◌, ◌<◌}
use native.Mathlib.Omega.{arith}
use lib.ListN.{set, get_or, replicate}
use Rattle.words.specs.Planes.{word_count, Planes}
use Rattle.cells.specs.declared.Cell.{Cell}
use Rattle.cells.specs.declared.Fields.{Fields}
use Rattle.cells.specs.Places.{no_cell, no_fields}
use Rattle.cells.proofs.Places.{whole-none, put_fields, put_whole}
use Rattle.store.specs.Store.{store_of, empty_store}
use Rattle.store.specs.Taken.{Laid}
use Rattle.store.proofs.Placed.{store-empty}
use Rattle.store.proofs.Laid.{no_words, lay-none, with-fields}
use Rattle.load.specs.Limits.{Thin, AllThin, Fitted}

replicated : (n j : ℕ) → Thin (get_or (replicate n no_cell) j no_cell).header
replicated zero j = omega arith
replicated (suc n) zero = omega arith
replicated (suc n) (suc j) = replicated n j

thin-new : AllThin empty_store
unfolding empty_store
thin-new = replicated 320

set-thin : (cs : List Cell) (i : ℕ) (c : Cell) → ((j : ℕ) → Thin (get_or cs j no_cell).header) → Thin c.header → (j : ℕ) → Thin (get_or (set cs i c) j no_cell).header
set-thin [] i c n h j = n j
set-thin (b ∷ cs) zero c n h zero = h
set-thin (b ∷ cs) zero c n h (suc j) = n (suc j)
set-thin (b ∷ cs) (suc i) c n h zero = n 0
set-thin (b ∷ cs) (suc i) c n h (suc j) = set-thin cs i c (λ k. n (suc k)) h j

pub fitted_none : (a : Planes) → Fitted no_fields 0 0 a
fitted_none a = record { whole = whole-none; thin = subst AllThin store-empty thin-new; words = no_words; laid = lay-none a }

module _ (f : Fields) (n k : ℕ) (a : Planes) (fitted : Fitted f n k a) (few : n < 320) (c : Cell) (thin : Thin c.header) where
  pub fitted-more : (next : ℕ) (b : Planes) → next ≡ c.start + word_count c.header.width
      → Laid (put_fields f n c) (n + 1) (c.start + word_count c.header.width) b → Fitted (put_fields f n c) (n + 1) next b
  fitted-more next b e laid =
      subst (λ (i : ℕ). Fitted (put_fields f n c) (n + 1) i b) (sym e) (record {
        whole = put_whole f n c fitted.whole;
        thin = subst AllThin (with-fields f n c fitted.whole few) (set-thin (store_of n f).cells n c fitted.thin thin);
        words = laid.words;
        laid = λ level. laid;
      })
