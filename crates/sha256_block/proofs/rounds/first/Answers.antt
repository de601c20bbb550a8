use mathlib.Core.Path.{◌≡◌, ◌∙◌, ap₂}
use Prim.Native.Nat.{ℕ}
use Rattle.sha256_words.specs.Words.{◌⊞◌}
use Rattle.sha256_block.specs.Compression.{T₁}
use Rattle.sha256_block.proofs.rounds.first.Goals as goal

sum_is : (h k w : ℕ) {x x' y y' r : ℕ} → r ≡ h ⊞ x ⊞ y ⊞ k ⊞ w → x ≡ x' → y ≡ y' → r ≡ h ⊞ x' ⊞ y' ⊞ k ⊞ w
sum_is h k w p q t = p ∙ ap₂ (λ x y. h ⊞ x ⊞ y ⊞ k ⊞ w) q t

pub returns : goal.returns
unfolding T₁
returns c =
    let a = c.args in
    sum_is a.s.h a.k a.w c.sum5.ensures c.big_sigma1.ensures c.ch.ensures
