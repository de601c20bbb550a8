-- Every element of a field, and every list of challenges, is listed exactly once. Assumes nothing.
use Rattle.std.specs.Prelude.{◌≡◌, ◌≢◌, ◌↔◌, ◌⊎◌, take}
use Rattle.std.proofs.Math.Path.{sym, ap, subst}
use Rattle.std.proofs.Common.{◌∙◌, inl, inr, length-take, take-suc, get_or-take}
use mathlib.Core.HLevel.{⊥_prop, ¬_prop}
use Rattle.std.proofs.Math.Logic.Or
use Rattle.std.proofs.Math.Logic.{∥∥₁_prop, ∥∥₁_elim, ∥∥₁_map}
use mathlib.Core.List.Pairwise
use mathlib.Core.List.{List, [], ◌∷◌, ◌++◌, map, flat_map, Mem, Mem-prop, Nodup, Disjoint, not-mem-nil, mem-cast, mem-cons_self, mem-cons_of_mem, eq-or-mem_of_mem-cons, mem-append, mem-append_left, mem-append_right, mem-map_of_mem, exists_of_mem-map, append_cancel_right, Nodup-nil, Nodup-cons, Nodup-append}
use Prim.Native.Nat.{ℕ, zero, suc, ◌+◌, ◌^◌, ◌<◌, ◌≤◌}
use Rattle.std.proofs.Math.Nat.{ℕ_set, suc_inj, pow-zero, pow-succ'}
use Rattle.std.proofs.Math.Bridge.{le_prop}
use Rattle.std.proofs.Math.Numerals.{add-one}
use native.Mathlib.Omega.{arith}
use Rattle.std.proofs.Math.ListN.{length, get_or, length-append, length-map, get_or-append}
use Rattle.std.proofs.Math.Seq.{take_all}
use Rattle.std.proofs.lemmas.List.{get_or_at}
use Rattle.algebra.specs.Order.{lt_or_ge}
use Rattle.algebra.specs.Lists.{row, length_row, length_flat_map}
use Rattle.algebra.specs.Words.{PrimeField}
use Rattle.algebra.specs.WordLists.{Low}
use Rattle.counting.specs.Challenges.{lists, challenge_words, all_elements, challenges}

module _ {A : Type 0} where
  mem_row : (n : ℕ) (f : ℕ → A) (j : ℕ) → j < n → Mem (f j) (row n f)
  unfolding row
  mem_row zero f j h = absurd (omega arith)
  mem_row (suc n) f zero h = mem-cons_self
  mem_row (suc n) f (suc j) h = mem-cons_of_mem (f 0) (mem_row n (λ i. f (suc i)) j (omega arith))

  of_row : (n : ℕ) (f : ℕ → A) (a : A) → Mem a (row n f) → ∥ ((j : ℕ) × (j < n) × (a ≡ f j)) ∥₁
  unfolding row
  of_row zero f a m = absurd (not-mem-nil m)
  of_row (suc n) f a m =
      Or.elim ∥∥₁_prop (eq-or-mem_of_mem-cons m) (λ e. ∣ (0, omega arith, e) ∣₁)
      (λ k. ∥∥₁_map (of_row n (λ i. f (suc i)) a k) (λ t. (suc t.0, omega (arith, t.1), t.2)))

  nodup_row : (n : ℕ) (f : ℕ → A) → ((i j : ℕ) → i < n → j < n → f i ≡ f j → i ≡ j) → Nodup (row n f)
  unfolding row
  nodup_row zero f one = Nodup-nil
  nodup_row (suc n) f one =
      Nodup-cons.1 (
        λ m. ∥∥₁_elim (of_row n (λ i. f (suc i)) (f 0) m) ⊥_prop (λ t. omega (arith, one 0 (suc t.0) (omega arith) (omega (arith, t.1)) t.2)),
        nodup_row n (λ i. f (suc i)) (λ i j h k e. suc_inj (one (suc i) (suc j) (omega arith) (omega arith) e)),
      )

module _ {A B : Type 0} (f : A → List B) where
  mem_flat_map : {b : B} (a : A) (xs : List A) → Mem a xs → Mem b (f a) → Mem b (flat_map f xs)
  unfolding flat_map
  mem_flat_map a [] m k = absurd (not-mem-nil m)
  mem_flat_map {b} a (x ∷ xs) m k =
      Or.elim Mem-prop (eq-or-mem_of_mem-cons m) (λ e. mem-append_left (flat_map f xs) (subst (λ z. Mem b (f z)) e k))
      (λ h. mem-append_right (f x) (mem_flat_map a xs h k))

  of_flat_map : (b : B) (xs : List A) → Mem b (flat_map f xs) → ∥ ((a : A) × Mem a xs × Mem b (f a)) ∥₁
  unfolding flat_map
  of_flat_map b [] m = absurd (not-mem-nil m)
  of_flat_map b (x ∷ xs) m =
      Or.elim ∥∥₁_prop (mem-append.0 m) (λ k. ∣ (x, mem-cons_self, k) ∣₁)
      (λ k. ∥∥₁_map (of_flat_map b xs k) (λ t. (t.0, mem-cons_of_mem x t.1, t.2)))

  nodup_flat_map : ((x : A) → Nodup (f x)) → ((x y : A) → x ≢ y → Disjoint (f x) (f y)) → (xs : List A) → Nodup xs → Nodup (flat_map f xs)
  unfolding flat_map
  nodup_flat_map each apart [] n = Nodup-nil
  nodup_flat_map each apart (x ∷ xs) n =
      let k = Nodup-cons.0 n in
      Nodup-append.1 (
        each x,
        nodup_flat_map each apart xs k.1,
        λ b p q. ∥∥₁_elim (of_flat_map b xs q) ⊥_prop (λ t. apart x t.0 (λ e. k.0 (mem-cast e t.1)) b p t.2),
      )

module _ {A : Type 0} (xs : List A) where
  -- the lists of d + 1 elements that end with x
  abbrev pub ending : ℕ → A → List (List A)
  ending d x = map (λ r. r ++ (x ∷ [])) (lists xs d)

  pub length_lists : (d : ℕ) → length (lists xs d) ≡ length xs ^ d
  unfolding lists
  length_lists zero = sym (pow-zero (length xs))
  length_lists (suc d) =
      length_flat_map (ending d) (length xs ^ d) (λ x. length-map (lists xs d) (λ r. r ++ (x ∷ [])) ∙ length_lists d) xs
      ∙ sym (pow-succ' (length xs) d)

  -- only lists of d elements
  pub sized_lists : (d : ℕ) (r : List A) → Mem r (lists xs d) → length r ≡ d
  unfolding lists
  sized_lists zero r m = Or.elim (ℕ_set _ _) (eq-or-mem_of_mem-cons m) (λ e. ap length e) (λ k. absurd (not-mem-nil k))
  sized_lists (suc d) r m =
      ∥∥₁_elim (of_flat_map (ending d) r xs m) (ℕ_set _ _)
      (λ t. ∥∥₁_elim (exists_of_mem-map t.2) (ℕ_set _ _)
      (λ u. sym (ap length u.2) ∙ length-append u.0 (t.0 ∷ []) ∙ ap (λ n. n + 1) (sized_lists d u.0 u.1) ∙ add-one d))

  module _ (z : A) where
    -- and of elements of xs
    pub from_list : (d : ℕ) (r : List A) → Mem r (lists xs d) → (j : ℕ) → j < d → Mem (get_or r j z) xs
    unfolding lists
    from_list zero r m j h = absurd (omega arith)
    from_list (suc d) r m j h =
        ∥∥₁_elim (of_flat_map (ending d) r xs m) Mem-prop
        (λ t. ∥∥₁_elim (exists_of_mem-map t.2) Mem-prop
        (λ u. subst (λ l. Mem (get_or l j z) xs) u.2 (at u.0 t.0 t.1 u.1 (from_list d u.0 u.1 j) (lt_or_ge j d))))
      where
        at : (s : List A) (x : A) → Mem x xs → Mem s (lists xs d) → (j < d → Mem (get_or s j z) xs) → (j < d) ⊎ (d ≤ j) → Mem (get_or (s ++ (x ∷ [])) j z) xs
        at s x k l front (inl b) = mem-cast (get_or-append s (x ∷ []) z j (omega (arith, sized_lists d s l))) (front b)
        at s x k l front (inr b) = mem-cast (get_or_at s x [] z j (sized_lists d s l ∙ omega arith)) k

    -- each of them
    pub every_list : (d : ℕ) (r : List A) → length r ≡ d → ((j : ℕ) → j < d → Mem (get_or r j z) xs) → Mem r (lists xs d)
    unfolding lists
    every_list zero [] e each = mem-cons_self
    every_list zero (x ∷ r) e each = absurd (omega arith)
    every_list (suc d) r e each =
        let x = get_or r d z in
        mem-cast (sym (sym (take-suc r d z (omega arith)) ∙ take_all (suc d) r (omega arith)))
        (mem_flat_map (ending d) x xs (each d (omega arith))
        (mem-map_of_mem (λ s. s ++ (x ∷ []))
        (every_list d (take d r) (length-take d r ∙ omega arith) (λ j h. mem-cast (get_or-take d r j z h) (each j (omega arith))))))

  -- none twice
  pub once_lists : Nodup xs → (d : ℕ) → Nodup (lists xs d)
  unfolding lists
  once_lists n zero = Nodup-cons.1 (not-mem-nil, Nodup-nil)
  once_lists n (suc d) = nodup_flat_map (ending d) (each (once_lists n d)) apart xs n
    where
      each : Nodup (lists xs d) → (x : A) → Nodup (ending d x)
      each below x = Pairwise.map (λ a b. ¬_prop) (λ r. r ++ (x ∷ [])) (λ r s k e. k (append_cancel_right r s (x ∷ []) e)) below

      apart : (x y : A) → x ≢ y → Disjoint (ending d x) (ending d y)
      apart x y k b p q =
          ∥∥₁_elim (exists_of_mem-map p) ⊥_prop (λ t. ∥∥₁_elim (exists_of_mem-map q) ⊥_prop (λ u.
          k (sym (get_or_at t.0 x [] x d (sized_lists d t.0 t.1)) ∙ ap (λ l. get_or l d x) (t.2 ∙ sym u.2) ∙ get_or_at u.0 y [] x d (sized_lists d u.0 u.1))))

-- of the lists of d words below p there are p^d; a list is among them exactly when it has d words, all of them below p; and once
pub length_challenge_words : (p d : ℕ) → length (challenge_words p d) ≡ p ^ d
length_challenge_words p d = length_lists (row p (λ j. j)) d ∙ ap (λ n. n ^ d) (length_row p (λ j. j))

pub every_challenge_words : (p d : ℕ) (r : List ℕ) → Mem r (challenge_words p d) ↔ ((length r ≡ d) × Low p r)
every_challenge_words p d r = (λ m. (sized_lists words d r m, record { low = λ j h. below m j (omega (arith, sized_lists words d r m)) }), λ h. every_list words 0 d r h.0 (λ j l. mem_row p (λ j. j) (get_or r j 0) (h.1.low j (omega (arith, h.0)))))
  where
    words : List ℕ
    words = row p (λ j. j)

    below : Mem r (challenge_words p d) → (j : ℕ) → j < d → get_or r j 0 < p
    below m j l = ∥∥₁_elim (of_row p (λ j. j) (get_or r j 0) (from_list words 0 d r m j l)) le_prop (λ t. omega (arith, t.1, t.2))

pub once_challenge_words : (p d : ℕ) → Nodup (challenge_words p d)
once_challenge_words p d = once_lists (row p (λ j. j)) (nodup_row p (λ j. j) (λ i j h k e. e)) d

module _ (𝓕 : PrimeField) where
  open 𝓕 use {modulus, field, words}
  open field use {ring as K}
  open K use {R, 𝟘}
  open words use {el, val, val_lt, el_val, val_el}

  pub all_there : (a : R) → Mem a (all_elements 𝓕)
  unfolding all_elements
  all_there a = mem-cast (sym (el_val a)) (mem_row modulus el (val a) (val_lt a))

  pub all_once : Nodup (all_elements 𝓕)
  unfolding all_elements
  all_once = nodup_row modulus el (λ i j h k e. sym (val_el i h) ∙ ap val e ∙ val_el j k)

  pub length_all : length (all_elements 𝓕) ≡ modulus
  unfolding all_elements
  length_all = length_row modulus el

  -- a list is among the lists of d challenges exactly when its length is d
  pub every_challenges : (d : ℕ) (r : List R) → Mem r (challenges 𝓕 d) ↔ (length r ≡ d)
  every_challenges d r = (sized_lists (all_elements 𝓕) d r, λ e. every_list (all_elements 𝓕) 𝟘 d r e (λ j h. all_there (get_or r j 𝟘)))
