-- Lists that are the same in front, and a part of a list that was lent and is back. Assumes nothing.
use mathlib.Core.Path.{◌≡◌, refl, sym, ap, ap₂, ◌∙◌}
use mathlib.Core.List.{List, [], ◌∷◌, ◌++◌, append_assoc}
use Prim.Native.Nat.{ℕ, zero, suc, ◌+◌, ◌<◌, ◌≤◌}
use native.Mathlib.Omega.{arith}
use lib.ListN.{length, take, drop, get_or, length-append, length-take, length-drop}
use lib.Seq.{take_at, drop_at, take-take, take-add, get_or-take, length-take-le}
use borrow.Rule.Slice.PartMut.{put_mid, take_put, same_len_mid}

module _ {A : Type 0} where
  -- a part of the first b places
  pub part_take : (a n b : ℕ) (w : List A) → a + n ≤ b → take n (drop a (take b w)) ≡ take n (drop a w)
  part_take zero n b w h = take-take n b w (omega arith)
  part_take (suc a) n zero w h = absurd (omega arith)
  part_take (suc a) n (suc b) [] h = refl
  part_take (suc a) n (suc b) (x ∷ w) h = part_take a n b w (omega arith)

  -- what lies within the first b places of two lists that are the same there
  module _ (b : ℕ) (v w : List A) (e : take b v ≡ take b w) where
    pub get_or_front : (k : ℕ) (d : A) → k < b → get_or v k d ≡ get_or w k d
    get_or_front k d h = sym (get_or-take b v k d h) ∙ ap (λ u. get_or u k d) e ∙ get_or-take b w k d h

    pub part_front : (a n : ℕ) → a + n ≤ b → take n (drop a v) ≡ take n (drop a w)
    part_front a n h = sym (part_take a n b v h) ∙ ap (λ u. take n (drop a u)) e ∙ part_take a n b w h

    pub take_front : (n : ℕ) → n ≤ b → take n v ≡ take n w
    take_front n h = part_front 0 n (omega arith)

  -- the k places from x on are back as r: what lies before them, the length, what they hold, and what they hold together with the y places before them
  module _ (x k : ℕ) (out r : List A) (within : x ≤ length out) (sized : length r ≡ k) where
    pub put_front : (b : ℕ) → b ≤ x → take b (put_mid x k out r) ≡ take b out
    put_front b h = take_front x (put_mid x k out r) out (take_put x k out r within) b h

    pub put_length : x + k ≤ length out → length (put_mid x k out r) ≡ length out
    put_length h = same_len_mid x k out r (sized ∙ sym (length-take k (drop x out) ∙ omega (arith, length-drop x out)))

    pub put_part : take k (drop x (put_mid x k out r)) ≡ r
    put_part =
        ap (take k) (drop_at (take x out) (r ++ drop k (drop x out)) x (length-take-le x out within)) ∙ take_at r (drop k (drop x out)) k sized

    pub put_next : (b y : ℕ) → x ≡ b + y → take (y + k) (drop b (put_mid x k out r)) ≡ take y (drop b out) ++ r
    put_next b y e =
        let Y = take y (drop b out) in
        let rest = drop k (drop x out) in
        let split : take x out ≡ take b out ++ Y = ap (λ n. take n out) e ∙ take-add b y out in
        let whole : put_mid x k out r ≡ take b out ++ ((Y ++ r) ++ rest) =
        ap (λ v. v ++ (r ++ rest)) split ∙ append_assoc (take b out) Y (r ++ rest) ∙ ap (λ v. take b out ++ v) (sym (append_assoc Y r rest)) in
        let long : length (Y ++ r) ≡ y + k = length-append Y r ∙ ap₂ ◌+◌ (length-take y (drop b out) ∙ omega (arith, length-drop b out)) sized in
        ap (λ v. take (y + k) (drop b v)) whole
        ∙ ap (take (y + k)) (drop_at (take b out) ((Y ++ r) ++ rest) b (length-take-le b out (omega arith)))
        ∙ take_at (Y ++ r) rest (y + k) long
