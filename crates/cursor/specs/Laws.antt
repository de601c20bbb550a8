-- One number that is judged, walks one after another, and what a walk that is done says of the numbers that stand there. Assumes nothing.
use Rattle.std.specs.Prelude.{◌≡◌, refl, Bool, true, false, cond, List, ◌∷◌, ◌++◌, ℕ, zero, suc, ◌+◌, ◌<◌, ◌≤◌, ltb, length, get_or}
use Rattle.std.proofs.Common.{sym, ap, ◌∙◌, zero-add, suc-add, arith, lt-ltb, le-ltb}
use Rattle.algebra.specs.Tests.{all, all_of}
use Rattle.job.specs.Outcome.{Numbers, Outcome, refused, done, ◌⨾◌}
use Rattle.job.specs.OutcomeLaws.{after_done, after_refused, both}
use Rattle.numeral.specs.Numeral.{number_at}
use Rattle.cursor.specs.Walk.{◌⟫◌, under, judged, walk, entry_of, entry, listed, after}

-- what the first outcome decides of two
module _ {A B : Type 0} {o : Outcome A} (f : A → Outcome B) where
  pub then_on : {a : A} {x : Outcome B} → done a ≡ o → x ≡ f a → x ≡ o ⟫ f
  then_on e g = g ∙ ap (λ p. p ⟫ f) e

  pub then_stop : {n : Numbers} → refused n ≡ o → refused n ≡ o ⟫ f
  then_stop e = ap (λ p. p ⟫ f) e

-- an outcome that is done, taken apart
pub data First {A B : Type 0} (o : Outcome A) (f : A → Outcome B) (b : B) : Type 0 where
  first : (a : A) → o ≡ done a → f a ≡ done b → First o f b

pub then_done : {A B : Type 0} (o : Outcome A) (f : A → Outcome B) {b : B} → o ⟫ f ≡ done b → First o f b
then_done (refused n) f e = absurd (let z : ◌≡◌ {A = ℕ} 0 1 = cc in omega arith)
then_done (done a) f e = first a refl e

done_or : ℕ → Outcome ℕ → ℕ
done_or d (refused n) = d
done_or d (done k) = k

pub same_place : {a b : ℕ} → ◌≡◌ {A = Outcome ℕ} (done a) (done b) → a ≡ b
unfolding done_or
same_place {a} e = ap (done_or a) e

then_then : {A B C : Type 0} (o : Outcome A) (f : A → Outcome B) (g : B → Outcome C) (h : A → Outcome C) → ((a : A) → h a ≡ f a ⟫ g) → o ⟫ h ≡ (o ⟫ f) ⟫ g
then_then (refused n) f g h e = refl
then_then (done a) f g h e = e a

-- ONE NUMBER: below the limit, not below it, or none
module _ (limit : ℕ) (fault : ℕ → Numbers) (i : ℕ) (bs : List ℕ) (at : ℕ) where
  pub judged_low : {v next : ℕ} → done (v, next) ≡ number_at bs at → v < limit → done next ≡ judged (under limit fault) i bs at
  judged_low {v} {next} e h =
      let passes : done tt ≡ under limit fault i v = sym (ap (λ t. cond t (done tt) (refused (fault i))) (lt-ltb v limit h)) in
      then_on (λ p. under limit fault i p.0 ⨾ done p.1) e (after_done passes refl)

  pub judged_high : {v next : ℕ} → done (v, next) ≡ number_at bs at → limit ≤ v → refused (fault i) ≡ judged (under limit fault) i bs at
  judged_high {v} {next} e h =
      let fails : refused (fault i) ≡ under limit fault i v = sym (ap (λ t. cond t (done tt) (refused (fault i))) (le-ltb v limit h)) in
      then_on (λ p. under limit fault i p.0 ⨾ done p.1) e (after_refused (done next) fails)

  pub judged_none : {n : Numbers} → refused n ≡ number_at bs at → refused n ≡ judged (under limit fault) i bs at
  judged_none e = then_stop (λ p. under limit fault i p.0 ⨾ done p.1) e

pub length_listed : (k : ℕ) (bs : List ℕ) (at : ℕ) → length (listed k bs at) ≡ k
unfolding listed
length_listed zero bs at = refl
length_listed (suc k) bs at = ap suc (length_listed k bs (entry bs at).1)

-- ONE PASS OVER j + k NUMBERS IS TWO PASSES, of which the second counts on
pub walk_split : (J : ℕ → ℕ → Outcome (Unit {0})) (i j k : ℕ) (bs : List ℕ) (at : ℕ) → walk J i (j + k) bs at ≡ walk J i j bs at ⟫ walk J (i + j) k bs
unfolding walk
walk_split J i zero k bs at = let same : i ≡ i + 0 = omega arith in ap (λ n. walk J i n bs at) (zero-add k) ∙ ap (λ m. walk J m k bs at) same
walk_split J i (suc j) k bs at =
    let on : i + 1 + j ≡ i + suc j = omega arith in
    ap (λ n. walk J i n bs at) (suc-add j k)
    ∙ then_then (judged J i bs at) (walk J (i + 1) j bs) (walk J (i + suc j) k bs) (walk J (i + 1) (j + k) bs)
    (λ a. walk_split J (i + 1) j k bs a ∙ ap (λ m. walk J (i + 1) j bs a ⟫ walk J m k bs) on)

pub after_split : (j k : ℕ) (bs : List ℕ) (at : ℕ) → after (j + k) bs at ≡ after k bs (after j bs at)
unfolding after
after_split zero k bs at = ap (λ n. after n bs at) (zero-add k)
after_split (suc j) k bs at = ap (λ n. after n bs at) (suc-add j k) ∙ after_split j k bs (entry bs at).1

pub listed_split : (j k : ℕ) (bs : List ℕ) (at : ℕ) → listed (j + k) bs at ≡ listed j bs at ++ listed k bs (after j bs at)
unfolding listed after
listed_split zero k bs at = ap (λ n. listed n bs at) (zero-add k)
listed_split (suc j) k bs at = ap (λ n. listed n bs at) (suc-add j k) ∙ ap (λ l. (entry bs at).0 ∷ l) (listed_split j k bs (entry bs at).1)

-- a number of the list, by the place where it stands
pub listed_at : (k i : ℕ) (bs : List ℕ) (at : ℕ) → i < k → get_or (listed k bs at) i 0 ≡ (entry bs (after i bs at)).0
unfolding listed after
listed_at zero i bs at h = absurd (omega arith)
listed_at (suc k) zero bs at h = refl
listed_at (suc k) (suc i) bs at h = listed_at k i bs (entry bs at).1 (omega arith)

-- a walk by its first number: the number, that it passes, and the walk that is left
pub record Begins (J : ℕ → ℕ → Outcome (Unit {0})) (i k : ℕ) (bs : List ℕ) (at e : ℕ) : Type 0 where
  pub p : ℕ × ℕ
  pub reads : number_at bs at ≡ done p
  pub passes : J i p.0 ≡ done tt
  pub left : walk J (i + 1) k bs p.1 ≡ done e

pub begins : (J : ℕ → ℕ → Outcome (Unit {0})) (i k : ℕ) (bs : List ℕ) (at e : ℕ) → walk J i (suc k) bs at ≡ done e → Begins J i k bs at e
unfolding walk
begins J i k bs at e w = go (then_done (judged J i bs at) (walk J (i + 1) k bs) w)
  where
    inner : (m : ℕ) → walk J (i + 1) k bs m ≡ done e → First (number_at bs at) (λ p. J i p.0 ⨾ done p.1) m → Begins J i k bs at e
    inner m w' (first p r f) =
        let b = both (J i p.0) f in
        record { p = p; reads = r; passes = b.0; left = ap (walk J (i + 1) k bs) (same_place b.1) ∙ w' }

    go : First (judged J i bs at) (walk J (i + 1) k bs) e → Begins J i k bs at e
    go (first m j w') = inner m w' (then_done (number_at bs at) (λ p. J i p.0 ⨾ done p.1) j)

-- A WALK ENDS WHERE THE SECOND PASS ENDS
pub walk_after : (J : ℕ → ℕ → Outcome (Unit {0})) (i k : ℕ) (bs : List ℕ) (at e : ℕ) → walk J i k bs at ≡ done e → after k bs at ≡ e
unfolding walk after
walk_after J i zero bs at e w = same_place w
walk_after J i (suc k) bs at e w =
    let 𝓑 = begins J i k bs at e w in
    ap (λ q. after k bs q.1) (ap (entry_of at) 𝓑.reads) ∙ walk_after J (i + 1) k bs 𝓑.p.1 e 𝓑.left

-- AND EACH NUMBER PASSES, by its own index
pub walk_judged : (J : ℕ → ℕ → Outcome (Unit {0})) (i k : ℕ) (bs : List ℕ) (at e : ℕ) → walk J i k bs at ≡ done e
    → (j : ℕ) → j < k → J (i + j) (get_or (listed k bs at) j 0) ≡ done tt
unfolding listed
walk_judged J i zero bs at e w j h = absurd (omega arith)
walk_judged J i (suc k) bs at e w zero h =
    let 𝓑 = begins J i k bs at e w in
    let same : i + 0 ≡ i = omega arith in
    ap (λ m. J m (entry bs at).0) same ∙ ap (λ q. J i q.0) (ap (entry_of at) 𝓑.reads) ∙ 𝓑.passes
walk_judged J i (suc k) bs at e w (suc j) h =
    let 𝓑 = begins J i k bs at e w in
    let on : i + suc j ≡ i + 1 + j = omega arith in
    ap (λ m. J m (get_or (listed k bs (entry bs at).1) j 0)) on
    ∙ ap (λ q. J (i + 1 + j) (get_or (listed k bs q.1) j 0)) (ap (entry_of at) 𝓑.reads)
    ∙ walk_judged J (i + 1) k bs 𝓑.p.1 e 𝓑.left j (omega arith)

under_done : (b : Bool) (n : Numbers) → cond b (done tt) (refused n) ≡ done (tt {0}) → b ≡ true
under_done true n e = refl
under_done false n e = absurd (let z : ◌≡◌ {A = ℕ} 0 1 = cc in omega arith)

-- so all of them are below the limit
pub walk_below : (limit : ℕ) (fault : ℕ → Numbers) (i k : ℕ) (bs : List ℕ) (at e : ℕ) → walk (under limit fault) i k bs at ≡ done e
    → all (λ v. ltb v limit) (listed k bs at) ≡ true
walk_below limit fault i k bs at e w =
    all_of (λ v. ltb v limit) (listed k bs at) 0 (λ j h. under_done _ _ (walk_judged (under limit fault) i k bs at e w j (omega (arith, length_listed k bs at))))
