-- The bits of a vector: what is read is what is written, and where each bit stands in the text.
--     bits-exact, bits_line-exact     the readers of exactly n bits, and of a line of them
--     bits_at       what is read is the vector of those characters
--     bits-length   it has as many bits as there are characters
use mathlib.Core.Path.{◌≡◌, refl, sym, ap, ap₂, ◌∙◌}
use mathlib.Core.Bool.{Bool, true, false, ◌||◌, cond}
use mathlib.Core.List.{List, [], ◌∷◌, ◌++◌, append_assoc, map, reverse, reverse-reverse}
use Prim.Native.Nat.{ℕ, ◌-◌, min}
use native.Mathlib.Omega.{arith}
use lib.Dec.{eqb}
use lib.ListN.{length, take, drop, length-reverse, length-map, length-take, length-drop}
use borrow.Author.Tests.{eqb-true}
use Rattle.bit.specs.declared.LogicBit.{LogicBit}
use Rattle.bit.specs.declared.LogicBit.TheVariants.{Zero, One, X, Z}
use Rattle.text.specs.Read.{found, line_end, is_bit, of_byte, bit, bits, bits_line}
use Rattle.text.specs.Write.{texts, bit_byte, bit_text, bits_text}
use Rattle.text.specs.Exact.{Exact, All}
use Rattle.text.specs.Answers.{bits_in}
use Rattle.text.proofs.Exact.{when-found, next-exact, made-exact, limit-exact, after-key, many-exact}

-- ---- a bit

of-byte : (b : LogicBit) → of_byte (bit_byte b) ≡ b
unfolding of_byte
of-byte Zero = refl
of-byte One = refl
of-byte X = refl
of-byte Z = refl

bit-accepts : (b : LogicBit) (t : List ℕ) → bit (bit_text b ++ t) ≡ found b t
unfolding bit is_bit of_byte
bit-accepts Zero t = refl
bit-accepts One t = refl
bit-accepts X t = refl
bit-accepts Z t = refl

byte_of : (c : ℕ) → is_bit c ≡ true → bit_byte (of_byte c) ≡ c
unfolding is_bit of_byte
byte_of c h = go (eqb c 48) (eqb c 49) (eqb c 120) (eqb c 122) refl refl refl refl h
  where
    go : (p q r s : Bool) → eqb c 48 ≡ p → eqb c 49 ≡ q → eqb c 120 ≡ r → eqb c 122 ≡ s
        → (p || (q || (r || s))) ≡ true → bit_byte (cond q One (cond r X (cond s Z Zero))) ≡ c
    go p true r s e f g k h = sym (eqb-true c 49 f)
    go p false true s e f g k h = sym (eqb-true c 120 g)
    go p false false true e f g k h = sym (eqb-true c 122 k)
    go true false false false e f g k h = sym (eqb-true c 48 e)
    go false false false false e f g k h = let z : ◌≡◌ {A = ℕ} 0 1 = cc in absurd (omega arith)

bit-only : (t u : List ℕ) (b : LogicBit) → bit t ≡ found b u → t ≡ bit_text b ++ u
unfolding bit
bit-only [] u b h = let z : ◌≡◌ {A = ℕ} 0 1 = cc in absurd (omega arith)
bit-only (c ∷ t) u b h =
    let w = when-found (is_bit c) (found (of_byte c) t) b u h in
    let e = byte_of c w.0 in
    let o : of_byte c ≡ b = cc w.1 in
    let q : t ≡ u = cc w.1 in
    rw (← o, q, e)

bit-exact : Exact bit bit_text (λ b. Unit {0})
bit-exact = record { accepts = λ b t p. bit-accepts b t; only = λ b t u h. (tt, bit-only t u b h) }

-- ---- a vector

any : (bs : List LogicBit) → All (λ b. Unit {0}) bs
any [] = tt
any (b ∷ bs) = (tt, any bs)

pub bits-exact : (n : ℕ) → Exact (bits n) bits_text (λ bs. length bs ≡ n)
unfolding bits bits_text
bits-exact n =
    limit-exact (λ bs p. sym (length-reverse bs) ∙ p.0.0) (λ bs p. ((length-reverse bs ∙ p, any (reverse bs)), tt {0}))
    (next-exact {Q = λ bs. Unit {0}} (λ bs. reverse bs) (many-exact n bit-exact) (λ l.
    limit-exact (λ bs p. (ap reverse p ∙ reverse-reverse l, tt {0})) (λ bs p. sym (reverse-reverse bs) ∙ ap reverse p.0)
    (after-key line_end (made-exact (reverse l)))))

pub bits_line-exact : (k : List ℕ) (n : ℕ) → Exact (bits_line k n) (λ bs. k ++ bits_text bs) (λ bs. length bs ≡ n)
unfolding bits_line
bits_line-exact k n = after-key k (bits-exact n)

-- ---- where the bits stand

bytes_read : (bs : List LogicBit) (u : List ℕ) → map of_byte (take (length bs) (texts bit_text bs ++ u)) ≡ bs
unfolding texts
bytes_read [] u = refl
bytes_read (b ∷ bs) u = ap₂ (λ (x : LogicBit) (l : List LogicBit). x ∷ l) (of-byte b) (bytes_read bs u)

pub bits-length : (s : List ℕ) (from n : ℕ) → length (bits_in s from n) ≡ min n (length s - from)
unfolding bits_in
bits-length s from n =
    length-reverse (map of_byte (take n (drop from s)))
    ∙ length-map (take n (drop from s)) of_byte
    ∙ length-take n (drop from s)
    ∙ ap (min n) (length-drop from s)

pub bits_at : (n : ℕ) (s : List ℕ) (from : ℕ) (bs : List LogicBit) (u : List ℕ) → bits n (drop from s) ≡ found bs u → bs ≡ bits_in s from n
unfolding bits_text bits_in
bits_at n s from bs u h =
    let o = (bits-exact n).only bs (drop from s) u h in
    let e : take n (drop from s) ≡ take (length (reverse bs)) (texts bit_text (reverse bs) ++ (line_end ++ u)) =
    ap₂ (λ (k : ℕ) (l : List ℕ). take k l) (sym (length-reverse bs ∙ o.0)) (o.1 ∙ append_assoc (texts bit_text (reverse bs)) line_end u)
    in
    sym (ap (λ (l : List ℕ). reverse (map of_byte l)) e ∙ ap reverse (bytes_read (reverse bs) (line_end ++ u)) ∙ reverse-reverse bs)
