-- The length of an opening. Assumes nothing.
use Rattle.std.specs.Prelude.{◌≡◌, List, ◌++◌, ℕ, ◌+◌ as ◌+ℕ◌, ◌*◌ as ◌*ℕ◌, ◌-◌ as ◌-ℕ◌, ◌^◌, length}
use Rattle.std.proofs.Common.{sym, ap, ap₂, ◌∙◌, add_assoc, arith, length-append}
use Rattle.algebra.specs.Field.{Field}
use Rattle.basefold.specs.Layout.{opening_size}
use Rattle.basefold.specs.Written.{rounds, blocks, opening}
use Rattle.basefold.specs.Descent.{length_blocks}
use Rattle.basefold.specs.Rounds.{length_rounds}
use Rattle.foldable.specs.Code.{Code, Legal}
use Rattle.multilinear.specs.Rounds.{final}
use Rattle.multilinear.specs.RoundLaws.{length_final}

pub length_opening : (F : Field) (low : ℕ) (C : Code F) (m z r : List F.ring.R) → Legal F C (length r)
    → length (opening F low C m z r) ≡ opening_size C.n₀ low (length r)
unfolding opening
length_opening F low C m z r 𝓛 =
    let d = length r in
    let v = final F.ring low m r in
    let B = blocks F low C m r d in
    let none : d -ℕ d ≡ 0 = omega arith in
    length-append (rounds F low m z r d) (v ++ B)
    ∙ ap₂ ◌+ℕ◌ (length_rounds F low m z r d)
    (length-append v B ∙ ap₂ ◌+ℕ◌ (length_final F.ring low m r) (length_blocks F low C m z r 𝓛 d (omega arith) ∙ ap (λ k. C.n₀ *ℕ (2 ^ d -ℕ 2 ^ k)) none))
    ∙ sym (add_assoc (3 *ℕ d) (2 ^ low) (C.n₀ *ℕ (2 ^ d -ℕ 1)))
