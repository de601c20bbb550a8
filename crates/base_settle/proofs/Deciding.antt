-- What trying a block answered settles it. Assumes nothing.
use mathlib.Core.Path.{◌≡◌, refl, sym, ap, ◌∙◌}
use mathlib.Core.Bool.{Bool, true, false, not, false≢true}
use mathlib.Core.List.{List}
use Prim.Native.Nat.{ℕ, ◌*◌, ◌^◌, ◌≤◌}
use native.Mathlib.Nat.{mul-le-mul_right}
use native.Mathlib.Omega.{arith}
use lib.ListN.{length, take}
use Rattle.algebra.specs.Words.{PrimeField}
use Rattle.std.specs.Prelude.{Ok, Err}
use Rattle.job.specs.declared.Refusal.TheVariants.{NoCodeword}
use Rattle.base_spread.specs.LentRows.{codeword_rows}
use Rattle.base_decode.specs.Decoding.{DecodeRows, Tried, message as tried, none as failed}
use Rattle.base_settle.specs.Settling.{Settled, message, none}

module _ (𝓕 : PrimeField) where
  module _ (d k n : ℕ) (g t t' b old : List ℕ) {r : Bool} {w : List ℕ} where
    pub found : Tried 𝓕 d k n g t t' b r w → not r ≡ false → (out : List ℕ) → out ≡ take (k * 2 ^ d) w → Settled 𝓕 d k n g t t' b old (Ok tt) out
    found (tried a l p e) y out q = message refl (ap length q ∙ l) (rw q p) (ap (codeword_rows 𝓕 d k n g t t') q ∙ e)
    found (failed a x) y out q = absurd (false≢true (sym y ∙ ap not a))

    pub not_found : Tried 𝓕 d k n g t t' b r w → not r ≡ true → Settled 𝓕 d k n g t t' b old (Err NoCodeword) old
    not_found (tried a l p e) y = absurd (false≢true (sym (ap not a) ∙ y))
    not_found (failed a x) y = none refl x refl

  -- the message is taken from the front of the work buffer
  pub front_within : (d k n : ℕ) (g m t t' b : List ℕ) (size : ℕ) → DecodeRows 𝓕 d k n g m t t' b size → k * 2 ^ d ≤ size
  front_within d k n g m t t' b size 𝓓 = omega (arith, 𝓓.input.work, mul-le-mul_right (2 ^ d) 𝓓.coding.lent.few)
