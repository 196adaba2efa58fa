-- `reduce_words::unchecked::xor_bits`: no word before k has an unknown bit, and `sum` has as many ones as they, up to an even number.
use Rattle.reduce_words.proofs.Parity.{Summed}
use Rattle.reduce_words.proofs.unchecked.xor_bits.Given as goal

abbrev pub invariant-loop-k : goal.invariant-loop-k
invariant-loop-k l = Summed l.width l.value l.unknown l.sum l.k
