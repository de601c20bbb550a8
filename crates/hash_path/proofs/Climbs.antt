-- A node hashed with its sibling, and a climb one piece further. Assumes nothing.
use mathlib.Core.Path.{◌≡◌, sym, ap, ap₂, ◌∙◌}
use mathlib.Core.List.{List, ◌∷◌, ◌++◌}
use Prim.Native.Nat.{ℕ, suc, ◌+◌, ◌*◌, ◌/◌, ◌%◌, ◌<◌, ◌≤◌}
use native.Mathlib.Omega.{arith}
use lib.ListN.{length, take, drop, length-append, length-drop}
use lib.Seq.{drop-drop, take_at, drop_at}
use Rattle.algebra.specs.Bits.{either}
use Rattle.algebra.specs.Lists.{row, row_ext}
use Rattle.merkle.specs.Tree.{parent, climb}
use Rattle.hash_tree.specs.Tree.{node_hash}
use Rattle.hash_path.specs.Climbing.{pieces, climbed}

module _ (j : ℕ) (x s : List ℕ) {r : List ℕ} where
  pub left_child : j % 2 ≡ 0 → r ≡ node_hash x s → r ≡ parent node_hash j x s
  left_child h e = e ∙ sym (ap (λ b. either b (node_hash s x) (node_hash x s)) h)

  pub right_child : (j % 2 ≡ 0 → ⊥) → r ≡ node_hash s x → r ≡ parent node_hash j x s
  right_child h e = let odd : j % 2 ≡ 1 = omega arith in e ∙ sym (ap (λ b. either b (node_hash s x) (node_hash x s)) odd)

pieces_more : (h : ℕ) (bs : List ℕ) → pieces (suc h) bs ≡ take 32 bs ∷ pieces h (drop 32 bs)
unfolding row
pieces_more h bs =
    ap (λ l. take 32 bs ∷ l)
    (row_ext h _ _ (λ k l. let e : 32 * suc k ≡ 32 + 32 * k = omega arith in ap (take 32) (ap (λ n. drop n bs) e ∙ sym (drop-drop (32 * k) 32 bs))))

-- a climb by the first piece, and by none
climbed_more : (j : ℕ) (x bs : List ℕ) → 32 ≤ length bs → climbed j x bs ≡ climbed (j / 2) (parent node_hash j x (take 32 bs)) (drop 32 bs)
unfolding climbed climb
climbed_more j x bs h =
    let n : length bs / 32 ≡ suc (length (drop 32 bs) / 32) = simp length-drop (omega arith) in
    ap (climb node_hash j x) (ap (λ k. pieces k bs) n ∙ pieces_more (length (drop 32 bs) / 32) bs)

pub climbed_none : (j : ℕ) (x bs : List ℕ) → length bs < 32 → climbed j x bs ≡ x
unfolding climbed climb row
climbed_none j x bs h = let none : length bs / 32 ≡ 0 = omega arith in ap (λ k. climb node_hash j x (pieces k bs)) none

-- a climb by a piece that stands first
pub climbed_turn : (j : ℕ) (x s r : List ℕ) {bs y z : List ℕ} → bs ≡ s ++ r → length s ≡ 32 → y ≡ parent node_hash j x s → climbed j x bs ≡ z → climbed (j / 2) y r ≡ z
climbed_turn j x s r e n p q =
    let long : 32 ≤ length (s ++ r) = simp length-append (omega arith) in
    ap₂ (climbed (j / 2)) (p ∙ ap (parent node_hash j x) (sym (take_at s r 32 n))) (sym (drop_at s r 32 n))
    ∙ sym (climbed_more j x (s ++ r) long)
    ∙ ap (climbed j x) (sym e)
    ∙ q
