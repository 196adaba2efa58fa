-- A store by the four lists of its places.
--     store-again     the lists of a store are that store
--     store-empty     the lists of an empty store
use mathlib.Core.Path.{◌≡◌, sym, ap, ◌∙◌}
use mathlib.Core.Bool.{false}
use mathlib.Core.List.{List}
use Prim.Native.Nat.{ℕ, ◌<◌}
use lib.ListN.{length, get_or, replicate, length-replicate, get_or-replicate}
use Rattle.words.proofs.Planes.{eq-tabulate}
use Rattle.cells.specs.declared.Cell.{Cell}
use Rattle.cells.specs.Places.{cell_of, fields_of, no_cell, no_fields}
use Rattle.cells.proofs.Places.{places-again}
use Rattle.store.specs.declared.Store.{Store}
use Rattle.store.specs.Store.{empty_store, store_of}

pub store-again : (s : Store) → length s.cells ≡ 320 → store_of s.count (fields_of s.cells) ≡ s
store-again s e = ap (λ (cs : List Cell). record { cells = cs; count = s.count }) (places-again s.cells e)

pub store-empty : empty_store ≡ store_of 0 no_fields
unfolding empty_store
store-empty =
    ap (λ (cs : List Cell). record { cells = cs; count = 0 })
    (eq-tabulate 320 (cell_of no_fields) (replicate 320 no_cell) no_cell (length-replicate 320 no_cell) read)
  where
    read : (i : ℕ) → i < 320 → get_or (replicate 320 no_cell) i no_cell ≡ cell_of no_fields i
    read i h =
        let n = get_or-replicate {A = ℕ} 320 i 0 0 h in
        let b = get_or-replicate 320 i false false h in
        get_or-replicate 320 i no_cell no_cell h
        ∙ sym (λ k. record { start = n k; header = record { width = n k; is_signed = b k; is_fill = b k } })
