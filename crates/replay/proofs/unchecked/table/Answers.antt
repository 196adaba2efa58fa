-- A file that fills the buffer is as long as that at least.
use Rattle.std.proofs.Common.{◌≡◌, ℕ, ◌≤◌, List, length, take, nat_lt, false, Option, IfSome, None, Some, ap, arith, min, length-take-le, length-take}
use Rattle.std.proofs.lemmas.Bool.Decides.{nat_tests}
use Rattle.std.specs.Io.KnownBytes.{Appends}
use Rattle.replay.specs.Report.{table_told, too_long}
use Rattle.replay.proofs.unchecked.table.Goals as goal

-- a buffer that is full with the front of a text
is_long : (t s : List ℕ) (n m : ℕ) → n ≤ length s → length s ≡ m → m ≤ n → take n s ≡ take m t → nat_lt (length t) m ≡ false
is_long t s n m within long full front =
    let a : length (take n s) ≡ n = length-take-le n s within in
    let b : length (take m t) ≡ min m (length t) = length-take m t in
    let e : length (take n s) ≡ length (take m t) = ap length front in
    let h : m ≤ length t = omega arith in
    grind (arith, nat_tests)

told_of : (o a b : Option (List ℕ)) (s : List ℕ) (n m : ℕ) → n ≤ length s → length s ≡ m → m ≤ n → IfSome o (λ t. take n s ≡ take m t) → Appends a b too_long → IfSome o (λ t. Appends a b (table_told m t))
told_of None a b s n m within long full front h = tt
told_of (Some t) a b s n m within long full front h = rw (is_long t s n m within long full front) h

pub returns-clause-wrote : goal.returns-clause-wrote
returns-clause-wrote g c =
    let read = c.in_ok-n.ensures in
    told_of _ _ _ c.read_all.new.buf c.in_ok-n.n _ read.count read.kept (omega arith) read.front c.in_ok-write_all.ensures.bytes
