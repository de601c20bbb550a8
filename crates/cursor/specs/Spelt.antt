-- Numbers are read one after another exactly where their numerals stand one after another; what is written is read back, and no other list has its
-- bytes. Assumes nothing.
use Rattle.std.specs.Prelude.{◌≡◌, ◌↔◌, true, ℕ, zero, suc, ◌+◌, ◌*◌, ◌-◌, ◌<◌, ◌≤◌, get_or, take, drop}
use Rattle.std.proofs.Math.Path.{refl, ap, ap₂}
use Rattle.std.proofs.Common.{sym, ◌∙◌, take-append-drop, length-append, length-take, length-drop, drop_at, drop-drop}
use mathlib.Core.List.{List, [], ◌∷◌, ◌++◌, flat_map, append_assoc, append-nil}
use native.Mathlib.Omega.{arith}
use Rattle.std.proofs.Math.Dec.{ltb}
use Rattle.std.proofs.Math.ListN.{length}
use Rattle.std.proofs.Math.Seq.{drop-length, drop-append_seam}
use borrow.Author.Tests.{ltb-true}
use Rattle.algebra.specs.Lists.{put}
use Rattle.algebra.specs.Tests.{all, and_both}
use Rattle.job.specs.Outcome.{Numbers, Outcome, done}
use Rattle.numeral.specs.Numeral.{longest, largest, number_at, bytes}
use Rattle.numeral.specs.Laws.{read_exactly}
use Rattle.numeral.specs.Unique.{few_bytes, one_numeral, read_back}
use Rattle.cursor.specs.Walk.{◌⟫◌, under, judged, walk, entry_of, entry, listed}
use Rattle.cursor.specs.Numerals.{all_bytes, Part, ReadBack}
use Rattle.cursor.specs.Laws.{same_place, judged_low, begins, walk_below}

-- each number has at most five bytes
pub few_all : (xs : List ℕ) → length (all_bytes xs) ≤ longest * length xs
unfolding flat_map
few_all [] = omega arith
few_all (x ∷ xs) = omega (arith, length-append (bytes x) (all_bytes xs), few_bytes longest x, few_all xs)

-- two parts one after another are one
join : (xs ys bs : List ℕ) (at m e : ℕ) → Part xs bs at m → Part ys bs m e → Part (xs ++ ys) bs at e
join xs ys bs at m e 𝓟 𝓠 =
    let p = 𝓟.ends in
    let q = 𝓠.ends in
    record {
      ends = simp length-append (omega arith);
      within = 𝓠.within;
      here = 𝓟.here ∙ ap (λ l. xs ++ l) 𝓠.here ∙ sym (append_assoc xs ys (drop e bs));
    }

module _ (xs ys bs : List ℕ) (at e : ℕ) (𝓟 : Part (xs ++ ys) bs at e) where
  inside : at + length xs ≤ length bs
  inside = let w = 𝓟.within in let p = 𝓟.ends in omega (arith, length-append xs ys)

  rest : drop (at + length xs) bs ≡ ys ++ drop e bs
  rest = sym (drop-drop (length xs) at bs) ∙ ap (drop (length xs)) (𝓟.here ∙ append_assoc xs ys (drop e bs)) ∙ drop-append_seam xs (ys ++ drop e bs)

  front : Part xs bs at (at + length xs)
  front = record { ends = refl; within = inside; here = 𝓟.here ∙ append_assoc xs ys (drop e bs) ∙ ap (λ l. xs ++ l) (sym rest) }

  back : Part ys bs (at + length xs) e
  back = let p = 𝓟.ends in record { ends = omega (arith, length-append xs ys); within = 𝓟.within; here = rest }

-- one number
number_spelt : (bs : List ℕ) → ((i : ℕ) → get_or bs i 0 < 256) → (at n next : ℕ) → number_at bs at ≡ done (n, next) → Part (bytes n) bs at next
number_spelt bs low at n next e =
    let 𝓢 = (read_exactly bs at n next).0 e in
    let some = 𝓢.some in
    let within = 𝓢.within in
    let is = one_numeral bs low at n next e in
    let far : at + (next - at) ≡ next = omega arith in
    let long : length (bytes n) ≡ next - at = sym (ap length is) ∙ length-take (next - at) (drop at bs) ∙ omega (arith, length-drop at bs) in
    let after : drop (next - at) (drop at bs) ≡ drop next bs = drop-drop (next - at) at bs ∙ ap (λ k. drop k bs) far in
    record { ends = omega arith; within = within; here = sym (take-append-drop (next - at) (drop at bs)) ∙ ap₂ ◌++◌ is after }

number_back : (bs : List ℕ) (at n next : ℕ) → n ≤ largest → Part (bytes n) bs at next → number_at bs at ≡ done (n, next)
number_back bs at n next small 𝓟 =
    let p = 𝓟.ends in
    let w = 𝓟.within in
    let same : put at (bytes n) bs ≡ bs =
    ap (λ k. take at bs ++ (bytes n ++ drop k bs)) p ∙ ap (λ l. take at bs ++ l) (sym 𝓟.here) ∙ take-append-drop at bs in
    ap (λ l. number_at l at) (sym same) ∙ read_back n at bs small (omega arith) ∙ ap (λ k. done (n, k)) p

-- what is written is a part, and the bytes alone are one
put_part : (xs o : List ℕ) (at : ℕ) → at ≤ length o → Part xs (put at xs o) at (at + length xs)
put_part xs o at h =
    let rest = drop (at + length xs) o in
    let begin : drop at (put at xs o) ≡ xs ++ rest = drop_at (take at o) (xs ++ rest) at (length-take at o ∙ omega arith) in
    let end : drop (at + length xs) (put at xs o) ≡ rest = sym (drop-drop (length xs) at (put at xs o)) ∙ ap (drop (length xs)) begin ∙ drop-append_seam xs rest in
    record { ends = refl; within = simp (length-append, length-take, length-drop) (omega arith); here = begin ∙ ap (λ l. xs ++ l) (sym end) }

whole : (l : List ℕ) → Part l l 0 (length l)
whole l = record { ends = omega arith; within = omega arith; here = sym (ap (λ r. l ++ r) (drop-length l) ∙ append-nil l) }

-- WHAT IS READ IS SPELT BY ITS NUMERALS
pub walk_spelt : (bs : List ℕ) → ((i : ℕ) → get_or bs i 0 < 256) → (J : ℕ → ℕ → Outcome (Unit {0})) (i k at e : ℕ) → at ≤ length bs → walk J i k bs at ≡ done e
    → Part (all_bytes (listed k bs at)) bs at e
unfolding walk listed flat_map
walk_spelt bs low J i zero at e h w = let is = same_place w in record { ends = omega arith; within = omega arith; here = ap (λ k. drop k bs) is }
walk_spelt bs low J i (suc k) at e h w =
    let 𝓑 = begins J i k bs at e w in
    let p = 𝓑.p in
    let 𝓟 = number_spelt bs low at p.0 p.1 𝓑.reads in
    let 𝓠 = walk_spelt bs low J (i + 1) k p.1 e 𝓟.within 𝓑.left in
    let is : entry bs at ≡ p = ap (entry_of at) 𝓑.reads in
    rw is (join (bytes p.0) (all_bytes (listed k bs p.1)) bs at p.1 e 𝓟 𝓠)

-- AND WHAT IS SPELT IS READ
pub spelt_walk : (limit : ℕ) (fault : ℕ → Numbers) → limit ≤ largest + 1 → (i : ℕ) (xs bs : List ℕ) (at e : ℕ) → all (λ v. ltb v limit) xs ≡ true → Part (all_bytes xs) bs at e
    → ReadBack limit fault i xs bs at e
unfolding walk listed flat_map all
spelt_walk limit fault few i [] bs at e low 𝓟 = let p = 𝓟.ends in let same : at ≡ e = omega arith in record { reads = ap done same; list = refl }
spelt_walk limit fault few i (x ∷ xs) bs at e low 𝓟 =
    let l = and_both (ltb x limit) (all (λ v. ltb v limit) xs) low in
    let small = ltb-true x limit l.0 in
    let m = at + length (bytes x) in
    let here = number_back bs at x m (omega arith) (front (bytes x) (all_bytes xs) bs at e 𝓟) in
    let 𝓡 = spelt_walk limit fault few (i + 1) xs bs m e l.1 (back (bytes x) (all_bytes xs) bs at e 𝓟) in
    let one : judged (under limit fault) i bs at ≡ done m = sym (judged_low limit fault i bs at (sym here) small) in
    let is : entry bs at ≡ (x, m) = ap (entry_of at) here in
    record {
      reads = ap (λ o. o ⟫ walk (under limit fault) (i + 1) (length xs) bs) one ∙ 𝓡.reads;
      list = ap (λ p. p.0 ∷ listed (length xs) bs p.1) is ∙ ap (λ l. x ∷ l) 𝓡.list;
    }

-- NUMBERS BELOW A LIMIT ARE READ EXACTLY WHERE THEIR NUMERALS STAND
pub walk_exactly : (limit : ℕ) (fault : ℕ → Numbers) → limit ≤ largest + 1 → (bs : List ℕ) → ((i : ℕ) → get_or bs i 0 < 256) → (i : ℕ) (xs : List ℕ) (at e : ℕ) → at ≤ length bs
    → ReadBack limit fault i xs bs at e ↔ ((all (λ v. ltb v limit) xs ≡ true) × Part (all_bytes xs) bs at e)
walk_exactly limit fault few bs low i xs at e h = (
  λ 𝓡. (
    ap (all (λ v. ltb v limit)) (sym 𝓡.list) ∙ walk_below limit fault i (length xs) bs at e 𝓡.reads,
    rw 𝓡.list at (walk_spelt bs low (under limit fault) i (length xs) at e h 𝓡.reads),
  ),
  λ l. spelt_walk limit fault few i xs bs at e l.0 l.1,
)

-- a numeral before other bytes: there are some, its number is read first, and the others follow
module _ (x : ℕ) (r : List ℕ) (small : x ≤ largest) where
  first_entry : entry (bytes x ++ r) 0 ≡ (x, 0 + length (bytes x))
  first_entry = ap (entry_of 0) (number_back (bytes x ++ r) 0 x _ small (front (bytes x) r (bytes x ++ r) 0 _ (whole (bytes x ++ r))))

  some_bytes : 0 < length (bytes x ++ r)
  some_bytes =
      let some = ((read_exactly (put 0 (bytes x) []) 0 x _).0 (read_back x 0 [] small (omega arith))).some in
      omega (arith, length-append (bytes x) r)

one_first : (x y : ℕ) (r s : List ℕ) → x ≤ largest → y ≤ largest → bytes x ++ r ≡ bytes y ++ s → (x ≡ y) × (r ≡ s)
one_first x y r s p q e =
    let is : x ≡ y = ap (λ z. z.0) (sym (first_entry x r p) ∙ ap (λ l. entry l 0) e ∙ first_entry y s q) in
    let behind : drop (length (bytes x)) (bytes y ++ s) ≡ s = ap (λ z. drop (length (bytes z)) (bytes y ++ s)) is ∙ drop-append_seam (bytes y) s in
    (is, sym (drop-append_seam (bytes x) r) ∙ ap (drop (length (bytes x))) e ∙ behind)

module _ (limit : ℕ) (few : limit ≤ largest + 1) where
  -- WHAT IS WRITTEN IS READ BACK
  pub written_back : (fault : ℕ → Numbers) (i : ℕ) (ws o : List ℕ) (at : ℕ) → all (λ v. ltb v limit) ws ≡ true → at ≤ length o
      → ReadBack limit fault i ws (put at (all_bytes ws) o) at (at + length (all_bytes ws))
  written_back fault i ws o at low h = spelt_walk limit fault few i ws (put at (all_bytes ws) o) at (at + length (all_bytes ws)) low (put_part (all_bytes ws) o at h)

  lows : (x : ℕ) (xs : List ℕ) → all (λ v. ltb v limit) (x ∷ xs) ≡ true → (x ≤ largest) × (all (λ v. ltb v limit) xs ≡ true)
  unfolding all
  lows x xs p = let a = and_both (ltb x limit) (all (λ v. ltb v limit) xs) p in let l = ltb-true x limit a.0 in (omega arith, a.1)

  -- AND NO OTHER LIST HAS ITS BYTES
  pub equal_bytes : (xs ys : List ℕ) → all (λ v. ltb v limit) xs ≡ true → all (λ v. ltb v limit) ys ≡ true → all_bytes xs ≡ all_bytes ys → xs ≡ ys
  unfolding flat_map
  equal_bytes [] [] p q e = refl
  equal_bytes [] (y ∷ ys) p q e = absurd (omega (arith, some_bytes y (all_bytes ys) (lows y ys q).0, ap length e))
  equal_bytes (x ∷ xs) [] p q e = absurd (omega (arith, some_bytes x (all_bytes xs) (lows x xs p).0, ap length e))
  equal_bytes (x ∷ xs) (y ∷ ys) p q e =
      let a = lows x xs p in
      let b = lows y ys q in
      let s = one_first x y (all_bytes xs) (all_bytes ys) a.0 b.0 e in
      ap₂ ◌∷◌ s.0 (equal_bytes xs ys a.1 b.1 s.1)
