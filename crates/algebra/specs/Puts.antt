-- A list written into another from a place on. Assumes nothing.
use Rattle.std.specs.Prelude.{◌≡◌, List, [], ◌++◌, ℕ, ◌+◌, ◌≤◌, length, take, drop}
use Rattle.std.proofs.Common.{sym, ap, ap₂, ◌∙◌, append_assoc, arith, take-append-drop, length-append, length-take, length-drop, take_at, length-take-le, drop-drop}
use Rattle.std.proofs.Math.Seq.{drop-append-add}
use Rattle.algebra.specs.Lists.{put}

module _ {A : Type 0} where
  -- nothing written
  pub put_none : (k : ℕ) (o : List A) → o ≡ put k [] o
  put_none k o = let same : k + 0 ≡ k = omega arith in sym (ap (λ i. take k o ++ drop i o) same ∙ take-append-drop k o)

  pub length_put : (k : ℕ) (xs o : List A) → k + length xs ≤ length o → length (put k xs o) ≡ length o
  length_put k xs o h = simp (length-append, length-take, length-drop) (omega arith)

  -- what is put behind what was put
  pub put_behind : (k m : ℕ) (x y p : List A) → m ≡ k + length x → k + length x ≤ length p → put m y (put k x p) ≡ put k (x ++ y) p
  put_behind k m x y p e h =
      let head : length (take k p ++ x) ≡ m = length-append (take k p) x ∙ omega (arith, length-take-le k p (omega arith)) in
      let far : k + length x + length y ≡ k + length (x ++ y) = simp length-append (omega arith) in
      let at : m + length y ≡ length (take k p ++ x) + length y = omega arith in
      let d = drop (k + length x) p in
      let q : put k x p ≡ (take k p ++ x) ++ d = sym (append_assoc (take k p) x d) in
      ap (put m y) q
      ∙ ap₂ (λ l r. l ++ (y ++ r))
      (take_at (take k p ++ x) d m head)
      (ap (λ i. drop i ((take k p ++ x) ++ d)) at ∙ drop-append-add (take k p ++ x) d (length y) ∙ drop-drop (length y) (k + length x) p ∙ ap (λ i. drop i p) far)
      ∙ simp append_assoc
