-- Paths through a node from those through its children, and what is carried from words and paths. Assumes nothing.
use mathlib.Core.Path.{◌≡◌, refl, sym, ap, ap₂, ◌∙◌}
use mathlib.Core.Bool.{Bool, true, false, cond}
use mathlib.Core.List.{List, ◌++◌}
use Prim.Native.Nat.{ℕ, zero, suc, ◌+◌, ◌*◌, ◌-◌, ◌/◌, ◌%◌, ◌^◌, ◌≤◌}
use native.Mathlib.Nat.{add-zero, mod-lt, div-eq_of_lt}
use native.Mathlib.Omega.{arith}
use lib.Dec.{eqb}
use lib.Pow.{shr-shr, pow_pos}
use lib.ListN.{length}
use borrow.Author.Tests.{eq-eqb, ne_eqb, eqb-true, eqb-false}
use Rattle.algebra.specs.Bits.{either}
use Rattle.algebra.specs.Lists.{put}
use Rattle.algebra.specs.Puts.{put_behind}
use Rattle.merkle.specs.Tree.{sibling, node}
use Rattle.hash_tree.specs.Tree.{node_hash}
use Rattle.hash_root.specs.Levels.{leaf_of}
use Rattle.hash_parts.specs.Queries.{put_each, Room, leaves, leaf_bytes, words_put, under, other, siblings_put}
use Rattle.hash_parts.specs.Parts.{Keeps, edit, edit_keeps, parts, put_parts, put_then, parts_ext}
use Rattle.hash_opened.specs.Carried.{path_bytes, carried, written, paths_put}
use Rattle.hash_opened.specs.CarriedLaws.{length_node, path_up, length_path, length_leaf}
use Rattle.hash_opened.specs.WrittenLaws.{written_parts}

-- one part: a list put for one child, for the other, and then a sibling
abbrev thrice : ℕ → ℕ → List ℕ → List ℕ → List ℕ → Bool → Bool → Bool → List ℕ
thrice k m x y p a b c = cond c (put m y (cond b (put k x (cond a (put k x p) p)) (cond a (put k x p) p))) (cond b (put k x (cond a (put k x p) p)) (cond a (put k x p) p))

thrice_at : (k m : ℕ) (x p : List ℕ) {y z : List ℕ} {a b c a' b' c' : Bool} → y ≡ z → a ≡ a' → b ≡ b' → c ≡ c' → thrice k m x y p a b c ≡ thrice k m x z p a' b' c'
thrice_at k m x p {y} {z} {a} {b} {c} {a'} {b'} {c'} e f g h =
    ap (λ v. thrice k m x v p a b c) e ∙ ap₂ (λ v v'. thrice k m x z p v v' c) f g ∙ ap (thrice k m x z p a' b') h

module _ (w : List ℕ) (n low j u : ℕ) (l r p : List ℕ) (e : l ≡ node node_hash (leaf_of w) low (2 * j)) (f : r ≡ node node_hash (leaf_of w) low (2 * j + 1)) (room : 8 + 32 * low ≤ length p) where
  i : ℕ
  i = u % n / 2 ^ low

  x : List ℕ
  x = path_bytes w low (u % n)

  up : u % n / 2 ^ (low + 1) ≡ i / 2
  unfolding i
  up = sym (shr-shr (u % n) low 1)

  -- the longer path, where the sibling is y
  longer : (y : List ℕ) → y ≡ node node_hash (leaf_of w) low (sibling i) → put (8 + 32 * low) y (put 8 x p) ≡ put 8 (path_bytes w (suc low) (u % n)) p
  unfolding i x
  longer y g =
      let m = length_path w low (u % n) in
      put_behind 8 (8 + 32 * low) x y p (omega arith) (omega arith)
      ∙ ap (λ z. put 8 z p) (ap (λ z. x ++ z) g ∙ sym (path_up w low (u % n)))

  c : Bool
  c = eqb (u % n / 2 ^ (low + 1)) j

  whole : List ℕ
  whole = put 8 (path_bytes w (suc low) (u % n)) p

  steps : List ℕ → Bool → Bool → Bool → List ℕ
  steps y = thrice 8 (8 + 32 * low) x y p

  left_child : i ≡ 2 * j → steps (either (i % 2) l r) (eqb i (2 * j)) (eqb i (2 * j + 1)) c ≡ cond c whole p
  unfolding c whole steps
  left_child q =
      let even : i % 2 ≡ 0 = omega arith in
      let here : c ≡ true = eq-eqb _ j (omega (arith, up)) in
      let beside : 2 * j + 1 ≡ sibling i = omega arith ∙ sym (ap (λ v. either v (i - 1) (i + 1)) even) in
      thrice_at 8 (8 + 32 * low) x p (ap (λ v. either v l r) even) (eq-eqb i (2 * j) q) (ne_eqb i (2 * j + 1) (λ h. omega arith)) here
      ∙ longer r (f ∙ ap (node node_hash (leaf_of w) low) beside)
      ∙ sym (ap (λ v. cond v whole p) here)

  right_child : i ≡ 2 * j + 1 → steps (either (i % 2) l r) (eqb i (2 * j)) (eqb i (2 * j + 1)) c ≡ cond c whole p
  unfolding c whole steps
  right_child q =
      let odd : i % 2 ≡ 1 = omega arith in
      let here : c ≡ true = eq-eqb _ j (omega (arith, up)) in
      let beside : 2 * j ≡ sibling i = omega arith ∙ sym (ap (λ v. either v (i - 1) (i + 1)) odd) in
      thrice_at 8 (8 + 32 * low) x p (ap (λ v. either v l r) odd) (ne_eqb i (2 * j) (λ h. omega arith)) (eq-eqb i (2 * j + 1) q) here
      ∙ longer l (e ∙ ap (node node_hash (leaf_of w) low) beside)
      ∙ sym (ap (λ v. cond v whole p) here)

  no_child : (i ≡ 2 * j → ⊥) → (i ≡ 2 * j + 1 → ⊥) → steps (either (i % 2) l r) (eqb i (2 * j)) (eqb i (2 * j + 1)) c ≡ cond c whole p
  unfolding c whole steps
  no_child q s =
      let away : c ≡ false = ne_eqb _ j (λ h. omega (arith, up)) in
      thrice_at 8 (8 + 32 * low) x p {y = either (i % 2) l r} refl (ne_eqb i (2 * j) q) (ne_eqb i (2 * j + 1) s) away
      ∙ sym (ap (λ v. cond v whole p) away)

  one_step : edit (under n (low + 1) j) (other n low l r) (8 + 32 * low) u (edit (under n low (2 * j + 1)) (λ v. path_bytes w low (v % n)) 8 u (edit (under n low (2 * j)) (λ v. path_bytes w low (v % n)) 8 u p))
      ≡ edit (under n (low + 1) j) (λ v. path_bytes w (suc low) (v % n)) 8 u p
  unfolding i x c whole steps
  one_step = go (eqb i (2 * j)) (eqb i (2 * j + 1)) refl refl
    where
      go : (a b : Bool) → eqb i (2 * j) ≡ a → eqb i (2 * j + 1) ≡ b → steps (either (i % 2) l r) (eqb i (2 * j)) (eqb i (2 * j + 1)) c ≡ cond c whole p
      go true b q s = left_child (eqb-true i (2 * j) q)
      go false true q s = right_child (eqb-true i (2 * j + 1) s)
      go false false q s = no_child (eqb-false i (2 * j) q) (eqb-false i (2 * j + 1) s)

length_either : (b : ℕ) (l r : List ℕ) → length l ≡ 32 → length r ≡ 32 → length (either b l r) ≡ 32
length_either zero l r p q = q
length_either (suc b) l r p q = p

-- THE PATHS THROUGH A NODE: those through its children, and then the children
pub paths_joined : (w us : List ℕ) (t low j first s : ℕ) (o l r : List ℕ) {o₁ o₂ o₃ : List ℕ} → t ≡ low + 1 → Room (8 + 32 * t) first s us o
    → l ≡ node node_hash (leaf_of w) low (2 * j) → r ≡ node node_hash (leaf_of w) low (2 * j + 1)
    → o₁ ≡ paths_put w low (2 * j) us first s o → o₂ ≡ paths_put w low (2 * j + 1) us first s o₁ → o₃ ≡ siblings_put l r (leaves w) low j us first s o₂
    → o₃ ≡ paths_put w t j us first s o
paths_joined w us t low j first s o l r {o₁} {o₂} up room e f p₁ p₂ p₃ =
    p₃
    ∙ put_then s us first o room.all (λ u p. path (2 * j + 1) u (path (2 * j) u p)) (under n (low + 1) j) (other n low l r) (8 + 32 * low) (λ u p h. keep (2 * j + 1) u (path (2 * j) u p) (keep (2 * j) u p h)) space₂ second
    ∙ parts_ext s us first o room.all _ _ (λ u p h. let m = room.one in one_step w n low j u l r p e f (omega arith))
    ∙ sym (put_parts s us first o room.all (under n (low + 1) j) (λ v. path_bytes w (suc low) (v % n)) 8 space₁)
    ∙ ap₂ (λ a b. put_each (under n a j) (λ v. path_bytes w b (v % n)) s us (first + 8) o) (sym up) (omega arith)
  where
    n : ℕ
    n = leaves w

    path : ℕ → ℕ → List ℕ → List ℕ
    path k = edit (under n low k) (λ v. path_bytes w low (v % n)) 8

    space : (u : ℕ) → 8 + length (path_bytes w low (u % n)) ≤ s
    space u = let m = room.one in let a = length_path w low (u % n) in omega arith

    space₁ : (u : ℕ) → 8 + length (path_bytes w (suc low) (u % n)) ≤ s
    space₁ u = let m = room.one in let a = length_path w (suc low) (u % n) in omega arith

    space₂ : (u : ℕ) → 8 + 32 * low + length (other n low l r u) ≤ s
    space₂ u = let m = room.one in let a = length_either (u % n / 2 ^ low % 2) l r (ap length e ∙ length_node w low _) (ap length f ∙ length_node w low _) in omega arith

    keep : (k : ℕ) → Keeps s (path k)
    keep k = edit_keeps (under n low k) (λ v. path_bytes w low (v % n)) 8 s space

    second : o₂ ≡ parts (λ u p. path (2 * j + 1) u (path (2 * j) u p)) s us first o
    second =
        p₂
        ∙ put_then s us first o room.all (path (2 * j)) (under n low (2 * j + 1)) (λ v. path_bytes w low (v % n)) 8 (keep (2 * j)) space
        (p₁ ∙ put_parts s us first o room.all (under n low (2 * j)) (λ v. path_bytes w low (v % n)) 8 space)

carried_by : (h : ℕ) (w : List ℕ) (u n : ℕ) → n ≡ 2 ^ h → leaf_bytes n w (u % n) ++ path_bytes w h (u % n) ≡ carried h w u
unfolding carried
carried_by h w u n e = ap (λ k. leaf_bytes k w (u % k) ++ path_bytes w h (u % k)) e

-- EVERYTHING: the words, and then the paths through the root
pub all_carried : (h : ℕ) (w us : List ℕ) (first s : ℕ) (o : List ℕ) {o₁ o₂ : List ℕ} → length w ≡ 2 ^ h + 2 ^ h → Room (8 + 32 * h) first s us o
    → o₁ ≡ words_put w us first s o → o₂ ≡ paths_put w h 0 us first s o₁ → o₂ ≡ written h w us first s o
all_carried h w us first s o {o₁} size room p q =
    q
    ∙ put_then s us first o room.all words (under n h 0) path 8 (edit_keeps (λ u. true) leaf 0 s space₀) space₁
    (p ∙ ap (λ k. put_each (λ u. true) leaf s us k o) (sym (add-zero first)) ∙ put_parts s us first o room.all (λ u. true) leaf 0 space₀)
    ∙ parts_ext s us first o room.all _ _ one
    ∙ sym (written_parts h w us first s o room)
  where
    n : ℕ
    n = leaves w

    half : n ≡ 2 ^ h
    half = omega arith

    leaf : ℕ → List ℕ
    leaf u = leaf_bytes n w (u % n)

    path : ℕ → List ℕ
    path u = path_bytes w h (u % n)

    words : ℕ → List ℕ → List ℕ
    words = edit (λ u. true) leaf 0

    space₀ : (u : ℕ) → 0 + length (leaf u) ≤ s
    space₀ u = let m = room.one in let a = length_leaf n w (u % n) in omega arith

    space₁ : (u : ℕ) → 8 + length (path u) ≤ s
    space₁ u = let m = room.one in let a = length_path w h (u % n) in omega arith

    one : (u : ℕ) (p : List ℕ) → length p ≡ s → edit (under n h 0) path 8 u (words u p) ≡ edit (λ v. true) (carried h w) 0 u p
    one u p k =
        let low : u % n / 2 ^ h ≡ 0 = div-eq_of_lt (omega (arith, ap (λ k. u % k) half, mod-lt u (pow_pos h))) in
        let a = length_leaf n w (u % n) in
        let m = room.one in
        ap (λ b. cond b (put 8 (path u) (put 0 (leaf u) p)) (put 0 (leaf u) p)) (eq-eqb _ 0 low)
        ∙ put_behind 0 8 (leaf u) (path u) p (omega arith) (omega arith)
        ∙ ap (λ x. put 0 x p) (carried_by h w u n half)
