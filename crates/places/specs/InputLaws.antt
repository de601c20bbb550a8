-- 4 names the first word that is not below the modulus, 5 the first zero and 6 the first equal pair, and each is due exactly where there is one. Assumes nothing.
use Rattle.std.specs.Prelude.{◌≡◌, refl, Bool, true, false, not, ◌↔◌, List, [], ◌∷◌, ℕ, zero, suc, ◌<◌, min, ltb, eqb, length, get_or}
use Rattle.std.proofs.Common.{sym, ap, ◌∙◌, arith}
use Rattle.std.proofs.lemmas.Bool.{false≢true}
use Rattle.algebra.specs.Tests.{all_at, all₂_at}
use Rattle.algebra.specs.Words.{PrimeField}
use Rattle.job.specs.declared.Input.TheVariants.{G}
use Rattle.job.specs.declared.Refusal.TheVariants.{Word}
use Rattle.job.specs.Outcome.{Numbers, refused, input_number, due, demand, ◌⨾◌}
use Rattle.job.specs.OutcomeLaws.{named, refused_named}
use Rattle.words.specs.Scans.{all_below, none_zero, all_differ}
use Rattle.places.specs.Places.{AllPass, First, first_place, high_place}
use Rattle.places.specs.PlaceLaws.{first_only, place_first, place₂_first}
use Rattle.places.specs.Inputs.{Lent, judge_words, FirstWord, no_zero, no_equal, FirstZero, FirstEqual}

module _ (𝓕 : PrimeField) where
  open 𝓕 use {modulus as P}

  -- whether each word of an input is below the modulus
  abbrev pub under : Lent → Bool
  under x = all_below 𝓕 x.1

  -- one input more in front, each of its words below the modulus
  behind : (x : Lent) (xs : List Lent) {j n : ℕ} → under x ≡ true → FirstWord 𝓕 xs j n → FirstWord 𝓕 (x ∷ xs) j n
  behind x xs e f = record {
    k = suc f.k;
    within = omega (arith, f.within);
    before = earlier;
    number = f.number;
    place = f.place;
  }
    where
      earlier : (i : ℕ) → i < suc f.k → under (get_or (x ∷ xs) i (G, [])) ≡ true
      earlier zero l = e
      earlier (suc i) l = f.before i (omega arith)

  -- what is refused is 4, at the first such word
  pub first_word : (xs : List Lent) {n : Numbers} → judge_words 𝓕 xs ≡ refused n → (n.0 ≡ 4) × FirstWord 𝓕 xs n.1 n.2
  first_word [] e = absurd (let z : ◌≡◌ {A = ℕ} 0 1 = cc in omega arith)
  first_word (x ∷ xs) {n} e = go (under x) refl (first_word xs) e
    where
      go : (b : Bool) → under x ≡ b → (judge_words 𝓕 xs ≡ refused n → (n.0 ≡ 4) × FirstWord 𝓕 xs n.1 n.2)
          → demand b (due (Word x.0 (high_place P x.1))) ⨾ judge_words 𝓕 xs ≡ refused n → (n.0 ≡ 4) × FirstWord 𝓕 (x ∷ xs) n.1 n.2
      go true q later f = let l = later f in (l.0, behind x xs q l.1)
      go false q later f =
          let same = ap named f in (
            sym (ap (λ m. m.0) same),
            record {
              k = 0;
              within = omega arith;
              before = λ i l. absurd (omega arith);
              number = ap (λ m. m.2) same;
              place = rw (sym (ap (λ m. m.1) same)) (place_first (λ w. ltb w P) x.1 q);
            },
          )

  -- and where there is such a word, it is refused
  word_first : (xs : List Lent) {j n : ℕ} → FirstWord 𝓕 xs j n → judge_words 𝓕 xs ≡ refused (4, j, n)
  word_first [] f = absurd (omega (arith, f.within))
  word_first (x ∷ xs) {j} {n} f = go f.k f.within f.before f.number f.place (λ h. word_first xs h)
    where
      here : First (λ i. ltb (get_or x.1 i 0) P) (length x.1) j → input_number x.0 ≡ n → (b : Bool) → under x ≡ b
          → demand b (due (Word x.0 (high_place P x.1))) ⨾ judge_words 𝓕 xs ≡ refused (4, j, n)
      here p e true q = absurd (false≢true (sym p.failing ∙ all_at (λ w. ltb w P) x.1 0 q j p.within))
      here p e false q = sym (λ i. refused (4, first_only p i, sym e i))

      later : judge_words 𝓕 xs ≡ refused (4, j, n) → (b : Bool) → b ≡ true → demand b (due (Word x.0 (high_place P x.1))) ⨾ judge_words 𝓕 xs ≡ refused (4, j, n)
      later e true q = e
      later e false q = absurd (false≢true q)

      go : (k : ℕ) → k < length (x ∷ xs) → ((i : ℕ) → i < k → under (get_or (x ∷ xs) i (G, [])) ≡ true) → input_number (get_or (x ∷ xs) k (G, [])).0 ≡ n
          → First (λ i. ltb (get_or (get_or (x ∷ xs) k (G, [])).1 i 0) P) (length (get_or (x ∷ xs) k (G, [])).1) j
          → (FirstWord 𝓕 xs j n → judge_words 𝓕 xs ≡ refused (4, j, n)) → judge_words 𝓕 (x ∷ xs) ≡ refused (4, j, n)
      go zero w e m p again = here p m (under x) refl
      go (suc k) w e m p again =
          later (again (record { k = k; within = omega arith; before = λ i l. e (suc i) (omega arith); number = m; place = p })) (under x) (e 0 (omega arith))

  pub word_named : (xs : List Lent) {j n : ℕ} → (judge_words 𝓕 xs ≡ refused (4, j, n)) ↔ FirstWord 𝓕 xs j n
  word_named xs = (λ e. (first_word xs e).1, λ f. word_first xs f)

-- a test that fails names the first place that does, and no other
module _ (b : Bool) (passes : ℕ → Bool) (m a : ℕ) (held : b ≡ true → AllPass passes m) (broken : b ≡ false → First passes m (first_place passes m)) where
  exactly_first : {k n : ℕ} → (demand b (a, first_place passes m, 0) ≡ refused (a, k, n)) ↔ (First passes m k × (n ≡ 0))
  exactly_first {k} {n} = (there b refl, λ h. back b refl h.0 h.1)
    where
      there : (c : Bool) → b ≡ c → demand c (a, first_place passes m, 0) ≡ refused (a, k, n) → First passes m k × (n ≡ 0)
      there c q e =
          let f = refused_named c (a, first_place passes m, 0) e in
          (rw (ap (λ x. x.1) f.1) (broken (q ∙ f.0)), ap (λ x. x.2) f.1)

      back : (c : Bool) → b ≡ c → First passes m k → n ≡ 0 → demand c (a, first_place passes m, 0) ≡ refused (a, k, n)
      back true q f e = absurd (false≢true (sym f.failing ∙ held q k f.within))
      back false q f e = sym (λ i. refused (a, first_only f i, e i))

-- 5 names the first zero, 6 the first place where both have the same word
pub zero_named : (g : List ℕ) {k n : ℕ} → (no_zero g ≡ refused (5, k, n)) ↔ (FirstZero g k × (n ≡ 0))
zero_named g = exactly_first (none_zero g) _ (length g) 5 (λ e. all_at (λ x. not (eqb x 0)) g 0 e) (λ e. place_first (λ x. not (eqb x 0)) g e)

pub equal_named : (t t' : List ℕ) {k n : ℕ} → (no_equal t t' ≡ refused (6, k, n)) ↔ (FirstEqual t t' k × (n ≡ 0))
equal_named t t' =
    exactly_first (all_differ t t') _ (min (length t) (length t')) 6
    (λ e j l. all₂_at (λ x y. not (eqb x y)) t t' 0 e j (omega arith) (omega arith))
    (λ e. place₂_first (λ x y. not (eqb x y)) t t' e)
