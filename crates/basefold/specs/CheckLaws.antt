-- Laws of the checks: which fails first (first_exactly), that none fails exactly when all hold (none_fails), and what the test of two elements says.
-- Assumes nothing.
use Rattle.std.proofs.Math.Path.{◌≡◌, refl}
use Rattle.std.proofs.Common.{sym, ap, ap₂, ◌∙◌, arith}
use Rattle.std.specs.Prelude.{Bool, cond, ◌↔◌, List, [], ◌∷◌, ◌++◌, ℕ, zero, suc, ◌<◌}
use Rattle.std.proofs.Math.Bool.{true, false, decide}
use Rattle.std.proofs.Math.Option.{none, some, or_else}
use Rattle.algebra.specs.Field.{Field}
use Rattle.algebra.specs.Lists.{row}
use Rattle.basefold.specs.Checks.{Check, first_failure, AllHold, FailsFirst, same}

pub first_holds : (c : Check) (b : Bool) (cs : List (Check × Bool)) → b ≡ true → first_failure ((c, b) ∷ cs) ≡ first_failure cs
unfolding first_failure
first_holds c b cs e = ap (λ (t : Bool). cond t (first_failure cs) (some c)) e

pub first_fails : (c : Check) (b : Bool) (cs : List (Check × Bool)) → b ≡ false → first_failure ((c, b) ∷ cs) ≡ some c
unfolding first_failure
first_fails c b cs e = ap (λ (t : Bool). cond t (first_failure cs) (some c)) e

pub first_none : first_failure [] ≡ none
unfolding first_failure
first_none = refl

-- of the checks a and then b: that of a, or else that of b
pub first_append : (a b : List (Check × Bool)) → first_failure (a ++ b) ≡ or_else (first_failure a) (first_failure b)
unfolding first_failure or_else
first_append [] b = refl
first_append (c ∷ a) b = go c.1 (first_append a b)
  where
    go : (t : Bool) → first_failure (a ++ b) ≡ or_else (first_failure a) (first_failure b)
        → cond t (first_failure (a ++ b)) (some c.0) ≡ or_else (cond t (first_failure a) (some c.0)) (first_failure b)
    go true e = e
    go false e = refl

-- there is no first failure exactly when every check holds
pub none_fails : (cs : List (Check × Bool)) → (first_failure cs ≡ none) ↔ AllHold cs
unfolding first_failure
none_fails [] = (λ e. tt, λ h. refl)
none_fails (c ∷ cs) = go c.1 refl (none_fails cs)
  where
    go : (t : Bool) → c.1 ≡ t → (first_failure cs ≡ none) ↔ AllHold cs → (cond c.1 (first_failure cs) (some c.0) ≡ none) ↔ ((c.1 ≡ true) × AllHold cs)
    go true e ih = (λ h. (e, ih.0 (sym (ap (λ b. cond b (first_failure cs) (some c.0)) e) ∙ h)), λ h. ap (λ b. cond b (first_failure cs) (some c.0)) e ∙ ih.1 h.1)
    go false e ih = (
      λ h. absurd (let n : some c.0 ≡ none = sym (ap (λ b. cond b (first_failure cs) (some c.0)) e) ∙ h in let z : ◌≡◌ {A = ℕ} 0 1 = cc in omega arith),
      λ h. absurd (let n : false ≡ true = sym e ∙ h.0 in let z : ◌≡◌ {A = ℕ} 0 1 = cc in omega arith),
    )

-- a first failure is the first check that fails
pub first_exactly : (cs : List (Check × Bool)) (c : Check) → (first_failure cs ≡ some c) ↔ FailsFirst cs c
first_exactly cs c = (
  λ e. found cs e,
  λ f. ap first_failure f.splits ∙ skipped f.before f.after f.hold,
)
  where
    skipped : (a b : List (Check × Bool)) → AllHold a → first_failure (a ++ (c, false) ∷ b) ≡ some c
    skipped [] b h = first_fails c false b refl
    skipped (x ∷ a) b h = first_holds x.0 x.1 (a ++ (c, false) ∷ b) h.0 ∙ skipped a b h.1

    found : (cs : List (Check × Bool)) → first_failure cs ≡ some c → FailsFirst cs c
    found [] e = absurd (let n : none ≡ some c = sym first_none ∙ e in let z : ◌≡◌ {A = ℕ} 0 1 = cc in omega arith)
    found (x ∷ cs) e = at x.1 refl (found cs)
      where
        at : (t : Bool) → x.1 ≡ t → (first_failure cs ≡ some c → FailsFirst cs c) → FailsFirst (x ∷ cs) c
        at true p ih =
            let f = ih (sym (first_holds x.0 x.1 cs p) ∙ e) in
            record { before = x ∷ f.before; after = f.after; splits = ap (λ l. x ∷ l) f.splits; hold = (p, f.hold) }
        at false p ih =
            let n : some x.0 ≡ some c = sym (first_fails x.0 x.1 cs p) ∙ e in
            let same : x.0 ≡ c = cc in
            record { before = []; after = cs; splits = ap₂ (λ a b. (a, b) ∷ cs) same p; hold = tt }

-- all of two lists of checks, and all of a row of them
pub all_append : (a b : List (Check × Bool)) → AllHold (a ++ b) ↔ (AllHold a × AllHold b)
all_append [] b = (λ h. (tt, h), λ h. h.1)
all_append (c ∷ a) b = let e = all_append a b in (λ h. let p = e.0 h.1 in ((h.0, p.0), p.1), λ h. (h.0.0, e.1 (h.0.1, h.1)))

pub all_row : (n : ℕ) (f : ℕ → Check × Bool) → AllHold (row n f) ↔ ((j : ℕ) → j < n → (f j).1 ≡ true)
unfolding row
all_row zero f = (λ h j l. absurd (omega arith), λ h. tt)
all_row (suc n) f = let e = all_row n (λ j. f (suc j)) in (λ h. at h.0 (e.0 h.1), λ h. (h 0 (omega arith), e.1 (λ j l. h (suc j) (omega arith))))
  where
    at : (f 0).1 ≡ true → ((j : ℕ) → j < n → (f (suc j)).1 ≡ true) → (j : ℕ) → j < suc n → (f j).1 ≡ true
    at h k zero l = h
    at h k (suc j) l = k j (omega arith)

module _ (F : Field) where
  open F use {ring as K, eq?}
  open K use {R}

  pub same_true : (a b : R) → a ≡ b → same F a b ≡ true
  unfolding same decide
  same_true a b e = go (eq? a b)
    where
      go : (d : Dec (a ≡ b)) → decide d ≡ true
      go (yes p) = refl
      go (no n) = absurd (n e)

  pub same_false : (a b : R) → (a ≡ b → ⊥) → same F a b ≡ false
  unfolding same decide
  same_false a b n = go (eq? a b)
    where
      go : (d : Dec (a ≡ b)) → decide d ≡ false
      go (yes p) = absurd (n p)
      go (no k) = refl

  -- the test says exactly that they are equal
  pub same_is : (a b : R) → (same F a b ≡ true) ↔ (a ≡ b)
  unfolding same decide
  same_is a b = (λ e. go (eq? a b) e, same_true a b)
    where
      go : (d : Dec (a ≡ b)) → decide d ≡ true → a ≡ b
      go (yes p) e = p
      go (no n) e = absurd (let z : ◌≡◌ {A = ℕ} 0 1 = cc in omega arith)
