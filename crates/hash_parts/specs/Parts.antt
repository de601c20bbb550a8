-- What is put for each query changes that query's part of the buffer alone, so that several puttings go part by part. Assumes nothing.
use Rattle.std.specs.Prelude.{◌≡◌, Bool, get_or}
use Rattle.std.proofs.Math.Path.{refl, sym, ap, ap₂}
use Rattle.std.proofs.Common.{◌∙◌, add-zero, mul-zero, length-take, drop_at, length-take-le}
use Rattle.std.proofs.Math.Bool.{true, false, not, cond}
use mathlib.Core.List.{List, [], ◌∷◌, ◌++◌, append_assoc}
use Prim.Native.Nat.{ℕ, zero, suc, ◌+◌, ◌*◌, ◌<◌, ◌≤◌}
use Rattle.std.proofs.Math.Nat.{mul-suc}
use native.Mathlib.Omega.{arith}
use Rattle.std.proofs.Math.ListN.{length, take, drop, length-append, length-drop, take-append-drop}
use Rattle.std.proofs.Math.Seq.{take_at, drop-drop, take-append-add, drop-append-add}
use Rattle.std.proofs.lemmas.List.{take-append-le, drop-append-le}
use Rattle.std.proofs.lemmas.Bool.{not-true}
use Rattle.algebra.specs.Lists.{put}
use Rattle.algebra.specs.Tests.{all, and_both}
use Rattle.hash_parts.specs.Queries.{put_each}

-- WHERE NOTHING IS PUT: no query passes, or there is nothing to put
module _ (b : ℕ → Bool) (x : ℕ → List ℕ) (s : ℕ) where
  pub none_pass : (us : List ℕ) (at : ℕ) (o : List ℕ) → all (λ u. not (b u)) us ≡ true → put_each b x s us at o ≡ o
  unfolding put_each all
  none_pass [] at o h = refl
  none_pass (u ∷ us) at o h =
      let t = and_both (not (b u)) (all (λ v. not (b v)) us) h in
      ap (λ v. put_each b x s us (at + s) (cond v (put at (x u) o) o)) (not-true (b u) t.0) ∙ none_pass us (at + s) o t.1

  pub none_given : (us : List ℕ) (at : ℕ) (o : List ℕ) → ((u : ℕ) → x u ≡ []) → put_each b x s us at o ≡ o
  unfolding put_each
  none_given [] at o h = refl
  none_given (u ∷ us) at o h = ap (put_each b x s us (at + s)) (same (b u)) ∙ none_given us (at + s) o h
    where
      same : (t : Bool) → cond t (put at (x u) o) o ≡ o
      same true = ap (λ y. put at y o) (h u) ∙ ap (λ k. take at o ++ drop k o) (add-zero at) ∙ take-append-drop at o
      same false = refl

-- f u at each part of s bytes
unfoldable pub in_parts : (ℕ → List ℕ → List ℕ) → ℕ → List ℕ → List ℕ → List ℕ
in_parts f s [] o = o
in_parts f s (u ∷ us) o = f u (take s o) ++ in_parts f s us (drop s o)

-- f keeps the length of a part
abbrev pub Keeps : ℕ → (ℕ → List ℕ → List ℕ) → Type 0
Keeps s f = (u : ℕ) (p : List ℕ) → length p ≡ s → length (f u p) ≡ s

-- x u at a place of the part, where u passes
abbrev pub edit : (ℕ → Bool) → (ℕ → List ℕ) → ℕ → ℕ → List ℕ → List ℕ
edit b x off u p = cond (b u) (put off (x u) p) p

length_put : (k : ℕ) (x o : List ℕ) → k + length x ≤ length o → length (put k x o) ≡ length o
length_put k x o h = simp (length-append, length-take, length-drop) (omega arith)

pub edit_keeps : (b : ℕ → Bool) (x : ℕ → List ℕ) (off s : ℕ) → ((u : ℕ) → off + length (x u) ≤ s) → Keeps s (edit b x off)
edit_keeps b x off s h u p e = go (b u)
  where
    go : (t : Bool) → length (cond t (put off (x u) p) p) ≡ s
    go true = length_put off (x u) p (omega (arith, h u)) ∙ e
    go false = e

-- putting within the second of three lists
put_middle : (a p c x : List ℕ) (off : ℕ) → off + length x ≤ length p → put (length a + off) x (a ++ (p ++ c)) ≡ a ++ (put off x p ++ c)
put_middle a p c x off h =
    let e : length a + off + length x ≡ length a + (off + length x) = omega arith in
    ap₂ (λ y z. y ++ (x ++ z))
    (take-append-add a (p ++ c) off ∙ ap (λ y. a ++ y) (take-append-le off p c (omega arith)))
    (ap (λ n. drop n (a ++ (p ++ c))) e ∙ drop-append-add a (p ++ c) (off + length x) ∙ drop-append-le (off + length x) p c h)
    ∙ simp append_assoc

module _ (b : ℕ → Bool) (x : ℕ → List ℕ) (off s : ℕ) (fits : (u : ℕ) → off + length (x u) ≤ s) where
  edit_middle : (u : ℕ) (a r : List ℕ) → s ≤ length r
      → cond (b u) (put (length a + off) (x u) (a ++ r)) (a ++ r) ≡ (a ++ edit b x off u (take s r)) ++ drop s r
  edit_middle u a r h = go (b u)
    where
      whole : r ≡ take s r ++ drop s r
      whole = sym (take-append-drop s r)

      go : (t : Bool) → cond t (put (length a + off) (x u) (a ++ r)) (a ++ r) ≡ (a ++ cond t (put off (x u) (take s r)) (take s r)) ++ drop s r
      go true =
          ap (λ o. put (length a + off) (x u) (a ++ o)) whole
          ∙ put_middle a (take s r) (drop s r) (x u) off (omega (arith, fits u, length-take-le s r h))
          ∙ sym (append_assoc a _ (drop s r))
      go false = ap (λ o. a ++ o) whole ∙ sym (append_assoc a (take s r) (drop s r))

  each_parts : (us a r : List ℕ) → s * length us ≤ length r → put_each b x s us (length a + off) (a ++ r) ≡ a ++ in_parts (edit b x off) s us r
  unfolding put_each in_parts
  each_parts [] a r h = refl
  each_parts (u ∷ us) a r h =
      let m = mul-suc s (length us) in
      let p = edit b x off u (take s r) in
      let n : length p ≡ s = edit_keeps b x off s fits u (take s r) (length-take-le s r (omega arith)) in
      let next : length a + off + s ≡ length (a ++ p) + off = simp length-append (omega arith) in
      ap₂ (put_each b x s us) next (edit_middle u a r (omega arith))
      ∙ each_parts us (a ++ p) (drop s r) (simp length-drop (omega arith))
      ∙ append_assoc a p _

-- f u at each part of s bytes from a place on
abbrev pub parts : (ℕ → List ℕ → List ℕ) → ℕ → List ℕ → ℕ → List ℕ → List ℕ
parts f s us at o = take at o ++ in_parts f s us (drop at o)

module _ (s : ℕ) where
  length_in_parts : (f : ℕ → List ℕ → List ℕ) → Keeps s f → (us r : List ℕ) → s * length us ≤ length r → length (in_parts f s us r) ≡ length r
  unfolding in_parts
  length_in_parts f k [] r h = refl
  length_in_parts f k (u ∷ us) r h =
      let m = mul-suc s (length us) in
      let n = k u (take s r) (length-take-le s r (omega arith)) in
      let l = length_in_parts f k us (drop s r) (simp length-drop (omega arith)) in
      let d = length-drop s r in
      simp length-append (omega arith)

  in_parts_two : (f g : ℕ → List ℕ → List ℕ) → Keeps s f → (us r : List ℕ) → s * length us ≤ length r
      → in_parts g s us (in_parts f s us r) ≡ in_parts (λ u p. g u (f u p)) s us r
  unfolding in_parts
  in_parts_two f g k [] r h = refl
  in_parts_two f g k (u ∷ us) r h =
      let m = mul-suc s (length us) in
      let n = k u (take s r) (length-take-le s r (omega arith)) in
      let y = f u (take s r) in
      let z = in_parts f s us (drop s r) in
      ap₂ (λ p q. g u p ++ in_parts g s us q) (take_at y z s n) (drop_at y z s n)
      ∙ ap (λ q. g u (f u (take s r)) ++ q) (in_parts_two f g k us (drop s r) (simp length-drop (omega arith)))

  in_parts_ext : (f g : ℕ → List ℕ → List ℕ) → ((u : ℕ) (p : List ℕ) → length p ≡ s → f u p ≡ g u p) → (us r : List ℕ) → s * length us ≤ length r
      → in_parts f s us r ≡ in_parts g s us r
  unfolding in_parts
  in_parts_ext f g e [] r h = refl
  in_parts_ext f g e (u ∷ us) r h =
      let m = mul-suc s (length us) in
      ap₂ ◌++◌ (e u (take s r) (length-take-le s r (omega arith))) (in_parts_ext f g e us (drop s r) (simp length-drop (omega arith)))

  -- part k, and what is behind the parts
  in_parts_at : (f : ℕ → List ℕ → List ℕ) → Keeps s f → (us r : List ℕ) → s * length us ≤ length r → (k : ℕ) → k < length us
      → take s (drop (s * k) (in_parts f s us r)) ≡ f (get_or us k 0) (take s (drop (s * k) r))
  unfolding in_parts
  in_parts_at f i [] r h k l = absurd (omega arith)
  in_parts_at f i (u ∷ us) r h zero l =
      let m = mul-suc s (length us) in
      let n = i u (take s r) (length-take-le s r (omega arith)) in
      ap (λ z. take s (drop z (in_parts f s (u ∷ us) r))) (mul-zero s)
      ∙ take_at (f u (take s r)) (in_parts f s us (drop s r)) s n
      ∙ sym (ap (λ z. f u (take s (drop z r))) (mul-zero s))
  in_parts_at f i (u ∷ us) r h (suc k) l =
      let m = mul-suc s (length us) in
      let n = i u (take s r) (length-take-le s r (omega arith)) in
      let y = f u (take s r) in
      let z = in_parts f s us (drop s r) in
      let e : s * suc k ≡ length y + s * k = mul-suc s k ∙ omega arith in
      let g : s + s * k ≡ s * suc k = omega arith ∙ sym (mul-suc s k) in
      ap (λ q. take s (drop q (y ++ z))) e
      ∙ ap (take s) (drop-append-add y z (s * k))
      ∙ in_parts_at f i us (drop s r) (simp length-drop (omega arith)) k (omega arith)
      ∙ ap (λ q. f (get_or us k 0) (take s q)) (drop-drop (s * k) s r ∙ ap (λ q. drop q r) g)

  in_parts_behind : (f : ℕ → List ℕ → List ℕ) → Keeps s f → (us r : List ℕ) → s * length us ≤ length r → drop (s * length us) (in_parts f s us r) ≡ drop (s * length us) r
  unfolding in_parts
  in_parts_behind f i [] r h = refl
  in_parts_behind f i (u ∷ us) r h =
      let m = mul-suc s (length us) in
      let n = i u (take s r) (length-take-le s r (omega arith)) in
      let y = f u (take s r) in
      let z = in_parts f s us (drop s r) in
      let e : s * suc (length us) ≡ length y + s * length us = omega arith in
      let g : s + s * length us ≡ s * suc (length us) = omega arith in
      ap (λ q. drop q (y ++ z)) e
      ∙ drop-append-add y z (s * length us)
      ∙ in_parts_behind f i us (drop s r) (simp length-drop (omega arith))
      ∙ drop-drop (s * length us) s r
      ∙ ap (λ q. drop q r) g

module _ (s : ℕ) (us : List ℕ) (at : ℕ) (o : List ℕ) (room : at + s * length us ≤ length o) where
  front : length (take at o) ≡ at
  front = length-take-le at o (omega arith)

  rest : s * length us ≤ length (drop at o)
  rest = simp length-drop (omega arith)

  pub put_parts : (b : ℕ → Bool) (x : ℕ → List ℕ) (off : ℕ) → ((u : ℕ) → off + length (x u) ≤ s) → put_each b x s us (at + off) o ≡ parts (edit b x off) s us at o
  put_parts b x off fits =
      ap₂ (λ k q. put_each b x s us (k + off) q) (sym front) (sym (take-append-drop at o))
      ∙ each_parts b x off s fits us (take at o) (drop at o) rest

  pub length_parts : (f : ℕ → List ℕ → List ℕ) → Keeps s f → length (parts f s us at o) ≡ length o
  length_parts f k =
      let a = front in
      let l = length_in_parts s f k us (drop at o) rest in
      let d = length-drop at o in
      simp length-append (omega arith)

  pub parts_two : (f g : ℕ → List ℕ → List ℕ) → Keeps s f → parts g s us at (parts f s us at o) ≡ parts (λ u p. g u (f u p)) s us at o
  parts_two f g k =
      let z = in_parts f s us (drop at o) in
      ap₂ (λ x y. x ++ in_parts g s us y) (take_at (take at o) z at front) (drop_at (take at o) z at front)
      ∙ ap (λ z. take at o ++ z) (in_parts_two s f g k us (drop at o) rest)

  pub parts_ext : (f g : ℕ → List ℕ → List ℕ) → ((u : ℕ) (p : List ℕ) → length p ≡ s → f u p ≡ g u p) → parts f s us at o ≡ parts g s us at o
  parts_ext f g e = ap (λ z. take at o ++ z) (in_parts_ext s f g e us (drop at o) rest)

  -- what is before the parts, part k, and what is behind the parts
  pub parts_front : (f : ℕ → List ℕ → List ℕ) → take at (parts f s us at o) ≡ take at o
  parts_front f = take_at (take at o) (in_parts f s us (drop at o)) at front

  pub parts_at : (f : ℕ → List ℕ → List ℕ) → Keeps s f → (k : ℕ) → k < length us → take s (drop (at + s * k) (parts f s us at o)) ≡ f (get_or us k 0) (take s (drop (at + s * k) o))
  parts_at f i k l =
      let z = in_parts f s us (drop at o) in
      ap (take s) (sym (drop-drop (s * k) at (parts f s us at o)) ∙ ap (drop (s * k)) (drop_at (take at o) z at front))
      ∙ in_parts_at s f i us (drop at o) rest k l
      ∙ ap (λ q. f (get_or us k 0) (take s q)) (drop-drop (s * k) at o)

  pub parts_behind : (f : ℕ → List ℕ → List ℕ) → Keeps s f → drop (at + s * length us) (parts f s us at o) ≡ drop (at + s * length us) o
  parts_behind f i =
      let z = in_parts f s us (drop at o) in
      sym (drop-drop (s * length us) at (parts f s us at o))
      ∙ ap (drop (s * length us)) (drop_at (take at o) z at front)
      ∙ in_parts_behind s f i us (drop at o) rest
      ∙ drop-drop (s * length us) at o

-- one more putting
pub put_then : (s : ℕ) (us : List ℕ) (at : ℕ) (o : List ℕ) → at + s * length us ≤ length o
    → (f : ℕ → List ℕ → List ℕ) (b : ℕ → Bool) (x : ℕ → List ℕ) (off : ℕ) {q : List ℕ} → Keeps s f → ((u : ℕ) → off + length (x u) ≤ s) → q ≡ parts f s us at o
    → put_each b x s us (at + off) q ≡ parts (λ u p. edit b x off u (f u p)) s us at o
put_then s us at o room f b x off k fits e =
    let n = length_parts s us at o room f k in
    ap (put_each b x s us (at + off)) e ∙ put_parts s us at (parts f s us at o) (omega arith) b x off fits ∙ parts_two s us at o room f (edit b x off) k
