-- No check fails exactly when every equation holds; and the places of a query, one from the other.
--     none_fails_exactly; place_first, place_next
-- Assumes nothing.
use Rattle.std.specs.Prelude.{◌≡◌, refl, true, ◌↔◌, get_or}
use Rattle.std.proofs.Common.{sym, ◌∙◌, mod-lt, mod-eq_of_lt, eq-or-lt_of_le, mul-pos, zero-mul, pow_pos, le-leb, lt-ltb, le-ltb}
use Rattle.std.proofs.Math.Path.{subst}
use Rattle.std.proofs.Math.Logic.{⊎_elim}
use Rattle.std.proofs.Math.Option.{none}
use mathlib.Core.List.{List, [], ◌∷◌, ◌++◌}
use Prim.Native.Nat.{ℕ, zero, suc, ◌+◌, ◌*◌, ◌-◌, ◌%◌, ◌^◌, ◌<◌, ◌≤◌}
use Rattle.std.proofs.Math.Nat.{mod-eq-sub-mod, mod-mod_of_dvd, dvd-add, dvd_refl}
use native.Mathlib.Omega.{arith}
use Rattle.std.proofs.Math.ListN.{length}
use Rattle.std.proofs.lemmas.Bool.{lt-leb}
use Rattle.algebra.specs.Field.{Field}
use Rattle.algebra.specs.Flags.{cond_true, cond_false}
use Rattle.algebra.specs.Order.{lt_or_ge}
use Rattle.foldable.specs.Code.{Code, size, line}
use Rattle.foldable.specs.Encode.{double}
use Rattle.multilinear.specs.Rounds.{final_sum}
use Rattle.basefold.specs.Layout.{block_of, sent, carried}
use Rattle.basefold.specs.Checks.{first_failure, AllHold, next, places, sums_from, sums, bases, fold_holds, folds_at, folds_from, checks}
use Rattle.basefold.specs.CheckLaws.{none_fails, all_append, all_row, same_is}
use Rattle.basefold.specs.Honest.{Queries}
use Rattle.basefold.specs.Equations.{place_at, sent_through, claim, Equations}

-- a query is its own place at the level where it starts
pub place_first : (n i u : ℕ) → u < n * 2 ^ i → place_at n u i ≡ u
place_first n i u h = mod-eq_of_lt h

-- below level i + 1 it goes on at its place of level i
pub place_next : (n i u : ℕ) → 0 < n → next n (suc i) (place_at n u (suc i)) ≡ place_at n u i
unfolding next
place_next n i u h =
    let m = n * 2 ^ i in
    let x = u % (n * 2 ^ suc i) in
    let two : n * 2 ^ suc i ≡ m + m = double n i in
    let inside : x < n * 2 ^ suc i = mod-lt u (positive n (suc i) h) in
    let whole : x % m ≡ u % m = mod-mod_of_dvd m u (rw two (dvd-add m (dvd_refl m) (dvd_refl m))) in
    ⊎_elim
    (λ l. cond_false (x - m) x (lt-leb m x l) ∙ sym (mod-eq_of_lt l) ∙ whole)
    (λ l. cond_true (x - m) x (le-leb m x l) ∙ sym (mod-eq-sub-mod l ∙ mod-eq_of_lt (omega arith)) ∙ whole)
    (lt_or_ge x m)
  where
    positive : (n i : ℕ) → 0 < n → 0 < n * 2 ^ i
    positive n i h = mul-pos h (pow_pos i)

-- of queries at depth d: the first one is a place of level d - 1, and so on
queries_cons : (n d x : ℕ) (xs : List ℕ) → Queries n d (x ∷ xs) → ((i : ℕ) × (d ≡ suc i) × (x < n * 2 ^ i)) × Queries n d xs
queries_cons n zero x xs h = absurd h
queries_cons n (suc i) x xs h = ((i, refl, h.0), h.1)

module _ (F : Field) (low : ℕ) (C : Code F) (w z : List F.ring.R) (y : F.ring.R) (r : List F.ring.R) (us : List ℕ) (o : List F.ring.R) where
  infixl 65 ◌+ᶠ◌
  open F use {ring as K}
  open K use {R, 𝟘, ◌+◌ as ◌+ᶠ◌}

  abbrev d : ℕ
  d = length r

  abbrev block : ℕ → List R
  block i = block_of C.n₀ low d w o i

  abbrev Sum : ℕ → Type 0
  Sum i = sent F o d i 0 +ᶠ sent F o d i 1 ≡ claim F o r y i

  abbrev Final : Type 0
  Final = final_sum K low (carried F low o d) z r ≡ claim F o r y 0

  abbrev FoldAt : ℕ → ℕ → Type 0
  FoldAt i u = line F (get_or r i 𝟘) (get_or (C.T i) u 𝟘) (get_or (C.T' i) u 𝟘) (get_or (block (suc i)) u 𝟘) (get_or (block (suc i)) (size F C i + u) 𝟘) ≡ get_or (block i) u 𝟘

  -- sums i, .., 1 and the final check
  sums_exactly : (i : ℕ) → i ≤ d → AllHold (sums_from F low o z r i (claim F o r y i)) ↔ (((k : ℕ) → k < i → Sum (suc k)) × Final)
  unfolding sums_from
  sums_exactly zero l = let e = same_is F (final_sum K low (carried F low o d) z r) (claim F o r y 0) in (λ h. (λ k m. absurd (omega arith), e.0 h.0), λ h. (e.1 h.1, tt))
  sums_exactly (suc i) l =
      let e = same_is F (sent F o d (suc i) 0 +ᶠ sent F o d (suc i) 1) (claim F o r y (suc i)) in
      let below : AllHold (sums_from F low o z r i (sent_through F o d (suc i) (get_or r i 𝟘))) ↔ (((k : ℕ) → k < i → Sum (suc k)) × Final) =
      rw (cond_true (sent_through F o d (suc i) (get_or r i 𝟘)) y (lt-ltb i d l)) at (sums_exactly i (omega arith)) in (
        λ h. let p = below.0 h.1 in (last (e.0 h.0) p.0, p.1),
        λ h. (e.1 (h.0 i (omega arith)), below.1 (λ k m. h.0 k (omega arith), h.1)),
      )
    where
      last : Sum (suc i) → ((k : ℕ) → k < i → Sum (suc k)) → (k : ℕ) → k < suc i → Sum (suc k)
      last s p k m = ⊎_elim (λ q. rw q s) (λ q. p k q) (eq-or-lt_of_le (suc_le m))
        where
          suc_le : k < suc i → k ≤ i
          suc_le h = omega arith

  fold_exactly : (i u : ℕ) → (fold_holds F low C w r o i u ≡ true) ↔ FoldAt i u
  unfolding fold_holds
  fold_exactly i u = same_is F _ (get_or (block i) u 𝟘)

  -- query x, at position q, at its places from level i on
  walk_exactly : (q x i : ℕ) → 0 < C.n₀ → AllHold (folds_at F low C w r o q (places C.n₀ (suc i) (place_at C.n₀ x i))) ↔ ((k : ℕ) → k < suc i → FoldAt k (place_at C.n₀ x k))
  unfolding folds_at places
  walk_exactly q x zero n = let e = fold_exactly 0 (place_at C.n₀ x 0) in (λ h. only (e.0 h.0), λ h. (e.1 (h 0 (omega arith)), tt))
    where
      only : FoldAt 0 (place_at C.n₀ x 0) → (k : ℕ) → k < 1 → FoldAt k (place_at C.n₀ x k)
      only f zero l = f
      only f (suc k) l = absurd (omega arith)
  walk_exactly q x (suc i) n =
      let e = fold_exactly (suc i) (place_at C.n₀ x (suc i)) in
      let below : AllHold (folds_at F low C w r o q (places C.n₀ (suc i) (next C.n₀ (suc i) (place_at C.n₀ x (suc i))))) ↔ ((k : ℕ) → k < suc i → FoldAt k (place_at C.n₀ x k)) =
      rw (place_next C.n₀ i x n) (walk_exactly q x i n) in
      (λ h. last (e.0 h.0) (below.0 h.1), λ h. (e.1 (h (suc i) (omega arith)), below.1 (λ k l. h k (omega arith))))
    where
      last : FoldAt (suc i) (place_at C.n₀ x (suc i)) → ((k : ℕ) → k < suc i → FoldAt k (place_at C.n₀ x k)) → (k : ℕ) → k < suc (suc i) → FoldAt k (place_at C.n₀ x k)
      last f p k m = ⊎_elim (λ e. rw e f) (λ l. p k l) (eq-or-lt_of_le (suc_le m))
        where
          suc_le : k < suc (suc i) → k ≤ suc i
          suc_le h = omega arith

  query_exactly : (q x i : ℕ) → d ≡ suc i → x < C.n₀ * 2 ^ i → AllHold (folds_at F low C w r o q (places C.n₀ d x)) ↔ ((k : ℕ) → k < d → FoldAt k (place_at C.n₀ x k))
  query_exactly q x i e h =
      subst (λ (m : ℕ). AllHold (folds_at F low C w r o q (places C.n₀ m x)) ↔ ((k : ℕ) → k < m → FoldAt k (place_at C.n₀ x k))) (sym e)
      (subst (λ (u : ℕ). AllHold (folds_at F low C w r o q (places C.n₀ (suc i) u)) ↔ ((k : ℕ) → k < suc i → FoldAt k (place_at C.n₀ x k))) (place_first C.n₀ i x h)
      (walk_exactly q x i (some C.n₀ (2 ^ i) h)))
    where
      some : (n m : ℕ) → x < n * m → 0 < n
      some zero m l = absurd (omega (arith, zero-mul m))
      some (suc n) m l = omega arith

  -- all queries, from position q on
  folds_exactly : (q : ℕ) (xs : List ℕ) → Queries C.n₀ d xs → AllHold (folds_from F low C w r o q xs) ↔ ((p i : ℕ) → p < length xs → i < d → FoldAt i (place_at C.n₀ (get_or xs p 0) i))
  unfolding folds_from
  folds_exactly q [] h = (λ a p i l. absurd (omega arith), λ a. tt)
  folds_exactly q (x ∷ xs) h =
      let c = queries_cons C.n₀ d x xs h in
      let e = query_exactly q x c.0.0 c.0.1 c.0.2 in
      let f = folds_exactly (suc q) xs c.1 in
      let a = all_append (folds_at F low C w r o q (places C.n₀ d x)) (folds_from F low C w r o (suc q) xs) in (
        λ g. let b = a.0 g in at (e.0 b.0) (f.0 b.1),
        λ g. a.1 (e.1 (λ k l. g 0 k (omega arith) l), f.1 (λ p i l m. g (suc p) i (omega arith) m)),
      )
    where
      at : ((k : ℕ) → k < d → FoldAt k (place_at C.n₀ x k)) → ((p i : ℕ) → p < length xs → i < d → FoldAt i (place_at C.n₀ (get_or xs p 0) i))
          → (p i : ℕ) → p < length (x ∷ xs) → i < d → FoldAt i (place_at C.n₀ (get_or (x ∷ xs) p 0) i)
      at first more zero i l m = first i m
      at first more (suc p) i l m = more p i (omega arith) m

  all_sums : AllHold (sums F low o z r y) ↔ (((k : ℕ) → k < d → Sum (suc k)) × Final)
  all_sums = subst (λ (c : R). AllHold (sums_from F low o z r d c) ↔ (((k : ℕ) → k < d → Sum (suc k)) × Final)) (cond_false (sent_through F o d (suc d) (get_or r d 𝟘)) y (le-ltb d d (omega arith))) (sums_exactly d (omega arith))

  -- no check fails exactly when every equation holds
  pub none_fails_exactly : Queries C.n₀ d us → (first_failure (checks F low C w z y r us o) ≡ none) ↔ Equations F low C w z y r us o
  unfolding checks
  none_fails_exactly 𝓠 =
      let a = none_fails (sums F low o z r y ++ (bases F low C w r o ++ folds_from F low C w r o 0 us)) in
      let b = all_append (sums F low o z r y) (bases F low C w r o ++ folds_from F low C w r o 0 us) in
      let c = all_append (bases F low C w r o) (folds_from F low C w r o 0 us) in
      let e = all_row C.n₀ _ in
      let f = folds_exactly 0 us 𝓠 in (
        λ h. let p = b.0 (a.0 h) in
            let q = c.0 p.1 in
            let s = all_sums.0 p.0 in
            record { sum = at_least s.0; final = s.1; base = λ j l. (same_is F _ _).0 (e.0 q.0 j l); fold = λ q' i u l m n. subst (FoldAt i) (sym n) (f.0 q.1 q' i l m) },
        λ h. a.1 (b.1 (all_sums.1 (λ k l. h.sum (suc k) (omega arith) l, h.final), c.1 (e.1 (λ j l. (same_is F _ _).1 (h.base j l)), f.1 (λ q i l m. h.fold q i _ l m refl)))),
      )
    where
      at_least : ((k : ℕ) → k < d → Sum (suc k)) → (i : ℕ) → 1 ≤ i → i ≤ d → Sum i
      at_least s zero l m = absurd (omega arith)
      at_least s (suc k) l m = s k m
