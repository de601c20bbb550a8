-- What the parts of the whole opening are lent. Assumes nothing.
use mathlib.Core.Path.{◌≡◌, ap, sym, ◌∙◌}
use mathlib.Core.List.{List, ◌++◌}
use Prim.Native.Nat.{ℕ, ◌+◌, ◌*◌, ◌^◌, ◌≤◌}
use native.Mathlib.Omega.{arith}
use lib.ListN.{length, take, drop, length-append, length-drop}
use lib.Pow.{pow_mono, pow_pos}
use lib.Seq.{take_at}
use Rattle.algebra.specs.Words.{PrimeField}
use Rattle.basefold.specs.Layout.{final_at}
use Rattle.polynomial.specs.Lent.{EvaluateInput}
use Rattle.base_rounds.specs.RowOpening.{WriteInput}
use Rattle.base_rounds.proofs.Target.{message_power}

module _ (𝓕 : PrimeField) (d low k n : ℕ) (g t t' m z r : List ℕ) (o s : ℕ) (𝓦 : WriteInput 𝓕 d low k n g t t' m z r o s) where
  power : k * 2 ^ d ≡ 2 ^ (low + d)
  power = message_power 𝓕 d low k n g t t' m z r o s 𝓦

  pub value_input : EvaluateInput 𝓕 m z
  value_input = record { size = 𝓦.message ∙ power ∙ ap (λ e. 2 ^ e) (sym 𝓦.point); message = 𝓦.message_low; point = 𝓦.point_low }

  pub message_within : length m ≤ s
  message_within = omega (arith, 𝓦.message, 𝓦.room)

  pub begun : (old work : List ℕ) → work ≡ m ++ drop (length m) old → take (k * 2 ^ d) work ≡ m
  begun old work e = ap (take (k * 2 ^ d)) e ∙ take_at m (drop (length m) old) (k * 2 ^ d) 𝓦.message

  pub length_begun : (old work : List ℕ) → length old ≡ s → work ≡ m ++ drop (length m) old → length work ≡ s
  length_begun old work l e = ap length e ∙ length-append m (drop (length m) old) ∙ omega (arith, length-drop (length m) old, message_within)

  pub rounds_input : (old work : List ℕ) (a b : ℕ) → work ≡ m ++ drop (length m) old → a ≡ o → b ≡ s → WriteInput 𝓕 d low k n g t t' (take (k * 2 ^ d) work) z r a b
  rounds_input old work a b e p q = rw (begun old work e, p, q) 𝓦

  pub final_within : (a b : ℕ) → a ≡ o → b ≡ s → (final_at d + k ≤ a) × (k ≤ b)
  final_within a b p q =
      let less : 2 ^ low ≤ 2 ^ (low + d) = pow_mono (omega arith) in
      let some = pow_pos low in
      (omega (arith, 𝓦.opens, 𝓦.rows), omega (arith, 𝓦.room, power, 𝓦.rows))
