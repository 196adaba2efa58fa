-- Reading a literal that was written yields the same vector, and its length is the one that is told.
--     text-again    reading the text of a vector
--     round_trip    as stated in specs/Write
use mathlib.Core.Path.{◌≡◌, refl, sym, ap, ◌∙◌}
use mathlib.Core.Bool.{Bool, true, false, not, cond}
use mathlib.Core.List.{List, [], ◌∷◌, ◌++◌, reverse, reverse-reverse}
use Prim.Native.Nat.{ℕ, ◌≤◌, ◌<◌}
use native.Mathlib.Omega.{arith}
use borrow.Author.Tests.{le-leb, ne_eqb}
use lib.Dec.{eqb}
use lib.ListN.{length, get_or}
use Rattle.bit.specs.declared.LogicBit.{LogicBit}
use Rattle.bit.specs.declared.LogicBit.TheVariants.{Zero, One, X, Z}
use Rattle.refusal.specs.Outcome.{Answer, Outcome, outcome, refuse, or_refuse, after}
use Rattle.refusal.specs.Outcome.Answer.{given, refused}
use Rattle.words.proofs.Planes.{eq-tabulate}
use Rattle.value.specs.Checks.{Vector, vector, check_vector}
use Rattle.text.specs.Read.{is_digit}
use Rattle.text.specs.Write.{decimal, bit_byte, bit_digits}
use Rattle.lines.proofs.Put.{length-bits, length-planes}
use Rattle.literal_words.specs.Digits.{max_size, is_underscore, digit_number, radix, digit_width, digits_bits, leading, value_bits, is_digit_of, is_value}
use Rattle.literal_read.specs.Literal.{is_size, literal, is_sign, marked, LiteralOf}
use Rattle.literal_read.proofs.Grammar.{accepts}
use Rattle.literal_write.specs.Write.{base_text, literal_text, check_size, literal_length, written_text, write_literal, RoundTrip}
use Rattle.literal_write.proofs.Lengths.{length-lent, length_taken, size_taken}
use Rattle.literal_write.proofs.Characters.{run_of, no-underscore, bits-pass, bits-again}
use Rattle.literal_write.proofs.Characters.{decimal-digits, decimal-some, decimal-first, decimal-again}

-- ---- the size

size-holds : (w : ℕ) → 1 ≤ w → w ≤ max_size → is_size (decimal w) ≡ true
unfolding is_size
size-holds w l h =
    let first = decimal-first w l in
    let other : get_or (decimal w) 0 0 ≡ 48 → ⊥ = omega arith in
    rw (run_of is_digit (decimal w) (decimal-digits w) (decimal-some w), ne_eqb _ _ other, decimal-again, le-leb _ _ h)

-- ---- the value

digit-of : (b : LogicBit) → is_digit_of 98 (bit_byte b) ≡ true
unfolding is_digit_of digit_number radix
digit-of Zero = refl
digit-of One = refl
digit-of X = refl
digit-of Z = refl

plain : (b : LogicBit) → not (is_underscore (bit_byte b)) ≡ true
plain Zero = refl
plain One = refl
plain X = refl
plain Z = refl

value-holds : (bs : List LogicBit) → 0 < length bs → is_value 98 (bit_digits bs) ≡ true
unfolding is_value
value-holds bs l =
    rw (run_of (is_digit_of 98) (bit_digits bs) (bits-pass (is_digit_of 98) digit-of (reverse bs)) (omega (arith, length-bits bs)))

value-again : (w : ℕ) (bs : List LogicBit) → length bs ≡ w → value_bits 98 w (bit_digits bs) ≡ bs
unfolding value_bits digit_width
value-again w bs e =
    let d = no-underscore (bit_digits bs) (bits-pass (λ c. not (is_underscore c)) plain (reverse bs)) in
    let b : digits_bits 1 (bit_digits bs) ≡ bs = bits-again (reverse bs) ∙ reverse-reverse bs in
    rw (d, b) (sym (eq-tabulate w (λ i. get_or bs i (leading (bit_digits bs))) bs _ e (λ i _. refl)))

-- ---- the parts

abbrev sign_text : Bool → List ℕ
sign_text true = 115 ∷ []
sign_text false = []

sign-text : (s : Bool) (t : List ℕ) → base_text s ++ t ≡ 39 ∷ sign_text s ++ (98 ∷ t)
sign-text true t = refl
sign-text false t = refl

sign-holds : (s : Bool) → is_sign (sign_text s) ≡ true
sign-holds true = refl
sign-holds false = refl

sign-again : (s : Bool) → marked (sign_text s) ≡ s
sign-again true = refl
sign-again false = refl

-- a vector that is written: its bits are as many as its width says, which is 1 to 4,096, and it is no fill
record Writable (x : Vector) : Type 0 where
  many : length x.bits ≡ x.header.width
  size : (1 ≤ x.header.width) × (x.header.width ≤ max_size)
  plain : x.header.is_fill ≡ false

literal-of : (x : Vector) → Writable x → LiteralOf (literal_text x) x
unfolding literal_text
literal-of x r =
    let w = x.header.width in
    let s = x.header.is_signed in
    record {
      parts = record { size = decimal w; sign = sign_text s; base = 98; value = bit_digits x.bits };
      text = ap (λ (t : List ℕ). decimal w ++ t) (sign-text s (bit_digits x.bits));
      size_holds = size-holds w r.size.0 r.size.1;
      sign_holds = sign-holds s;
      base_holds = refl;
      value_holds = value-holds x.bits (omega arith);
      stands = rw (decimal-again w, value-again w x.bits r.many, sign-again s)
          (ap (λ (f : Bool). record { header = record { width = w; is_signed = s; is_fill = f }; bits = x.bits }) r.plain);
    }

text-again : (x : Vector) → Writable x → literal (literal_text x) ≡ given x
text-again x r = (accepts (literal_text x) x).1 (literal-of x r)

-- ---- what the writer writes

pub round_trip : RoundTrip
unfolding write_literal
round_trip h p out t e = go (check_vector h p) (check_size h) refl e
  where
    w : List ℕ
    w = literal_text (vector h p)

    none : (n : ℕ) → ◌≡◌ {A = Outcome Unit (List ℕ)} (refuse n out) (outcome (given tt) t) → ⊥
    none n e =
        let f : ◌≡◌ {A = Answer Unit} (refused n) (given tt) = ap (λ (o : Outcome Unit (List ℕ)). o.answer) e in
        let z : ◌≡◌ {A = ℕ} 0 1 = cc in
        absurd (omega arith)

    same : (b : Bool) → ◌≡◌ {A = Outcome Unit (List ℕ)} (cond b (outcome (given tt) w) (refuse 5 out)) (outcome (given tt) t) → w ≡ t
    same true e = ap (λ (o : Outcome Unit (List ℕ)). o.left) e
    same false e = absurd (none 5 e)

    go : (a b : Answer Unit) → check_size h ≡ b → or_refuse (after a b) out (written_text w out) ≡ outcome (given tt) t
        → (literal t ≡ given (vector h p)) × (literal_length h ≡ given (length t))
    go (refused n) b q e = absurd (none n e)
    go (given u) (refused n) q e = absurd (none n e)
    go (given u) (given v) q e =
        let s = size_taken h q in
        let k : w ≡ t = same (eqb (length out) (length w)) e in (
          ap literal (sym k) ∙ text-again (vector h p) (record { many = length-planes h.width p.value p.unknown; size = (s.1, s.2); plain = s.0 }),
          length_taken h s.0 s.1 s.2 ∙ ap (λ (n : ℕ). given n) (sym (length-lent h p) ∙ ap length k),
        )
