-- What the tests of depth, rate and lengths and the exponent of a legal rate tell; and a call, done and refused. Assumes nothing.
use mathlib.Core.Path.{◌≡◌, refl, sym, ap, subst, ◌∙◌}
use mathlib.Core.Bool.{Bool, true, false, ◌&&◌, false≢true}
use mathlib.Core.List.{List}
use mathlib.Core.Logic.{⊎_elim}
use Prim.Native.Nat.{ℕ, ◌^◌}
use native.Mathlib.Omega.{arith}
use borrow.Author.Tests.{eq-eqb, ne_eqb}
use lib.ListN.{length}
use Rattle.job.specs.Outcome.{Answer}
use Rattle.job.specs.Outcome.{Numbers, Outcome, refused, done, outcome, require, ◌⨾◌}
use Rattle.job.specs.declared.Refusal.TheVariants.{NoPowerOfTwo}
use Rattle.std.specs.Prelude.{Option, Some, None, cond, ok_or}
use Rattle.algebra.specs.Flags.{cond_true, cond_false}
use Rattle.job.specs.OutcomeLaws.{kept_done, kept_refused, same_refusal}
use Rattle.job.specs.Limits.{rate_ok}
use Rattle.job.specs.LimitLaws.{rate_least}
use Rattle.job.specs.Sizes.{depth_ok, in_limits}
use Rattle.root_rows.specs.Rule.{ones_words, first_words, negative_words, Room, ByRule}
use Rattle.fill_roots.specs.Filling.{exponent, exponent_found, is_two_power, judge_filling, RootsFilled}
use Rattle.fill_roots.specs.FillingLaws.{exponent_power, two_power, rates_pass, inside, power_is, room}

pub exponent_at : (e : ℕ) {c : ℕ} → c ≡ 2 ^ e → e ≡ exponent c
exponent_at e q = sym (ap (λ n. exponent n) q ∙ exponent_power e)

-- the exponent of a power of two
pub some_found : (e : ℕ) {c : ℕ} → c ≡ 2 ^ e → Some e ≡ exponent_found c
some_found e {c} q = ap Some (exponent_at e q) ∙ sym (cond_true (Some (exponent c)) None ((two_power c).1 (record { log = e; is = q })))

-- no other legal rate has one
pub none_found : (c : ℕ) → rate_ok c ≡ true → (c ≡ 2 → ⊥) → (c ≡ 4 → ⊥) → (c ≡ 8 → ⊥) → (c ≡ 16 → ⊥) → None ≡ exponent_found c
none_found c r n2 n4 n8 n16 = sym (cond_false (Some (exponent c)) None (ne_eqb c (2 ^ exponent c) (λ q. ⊎_elim n2 (⊎_elim n4 (⊎_elim n8 n16)) (rates_pass c r (record { log = exponent c; is = q })))))

-- so 12 is due where none is found
pub found_or_due : (b : Bool) (e : ℕ) → outcome (ok_or (cond b (Some e) None) NoPowerOfTwo) ≡ require b 12 ⨾ done e
found_or_due true e = refl
found_or_due false e = refl

-- what an outcome that gives e on says of what came before
pub given_on : (o : Outcome (Unit {0})) {x e : ℕ} → done e ≡ o ⨾ done x → (o ≡ done tt) × (e ≡ x)
given_on (done u) {x} {e} q = (refl, ap (value x) q)
  where
    value : ℕ → Outcome ℕ → ℕ
    value x (done a) = a
    value x (refused n) = x
given_on (refused n) q = absurd (false≢true (sym (ap is_done q)))
  where
    is_done : Outcome ℕ → Bool
    is_done (done a) = true
    is_done (refused n) = false

pub refused_before : (o : Outcome (Unit {0})) (x : ℕ) {n : Numbers} → ◌≡◌ {A = Outcome ℕ} (refused n) (o ⨾ done x) → refused n ≡ o
refused_before (done u) x q = absurd (false≢true (ap is_done q))
  where
    is_done : Outcome ℕ → Bool
    is_done (done a) = true
    is_done (refused n) = false
refused_before (refused m) x q = same_refusal q

-- within the limits the test of the lengths tells of the lengths alone
pub lengths_fail : (d c : ℕ) {l : Bool} → depth_ok 1 d ≡ true → rate_ok c ≡ true → (in_limits d c 1 && l) ≡ false → l ≡ false
lengths_fail d c {l} p q e = sym (ap (λ b. b && l) (inside d c p q)) ∙ e

module _ (d c k : ℕ) (g t t' : List ℕ) where
  module _ (e : judge_filling d c k (length g) (length t) (length t') ≡ done tt) {x : ℕ} (q : x ≡ exponent c) where
    pub lent_room : Room d x (length g) (length t) (length t')
    lent_room = subst (λ n. Room d n (length g) (length t) (length t')) (sym q) (room d c k (length g) (length t) (length t') e)

    pub call_done : {r : Answer} {g₁ t₁ t₁' : List ℕ} → outcome r ≡ judge_filling d c k (length g) (length t) (length t') → ByRule d x g₁ t₁ t₁' → RootsFilled d c k g t t' r g₁ t₁ t₁'
    call_done told 𝓡 =
        record {
          answer = told;
          row = kept_done g e (𝓡.row ∙ ap (λ n. ones_words (2 ^ n)) q ∙ ap ones_words (sym (power_is d c k (length g) (length t) (length t') e)));
          first = kept_done t e (𝓡.first ∙ ap (λ n. first_words n d) q);
          second = kept_done t' e (𝓡.second ∙ ap (λ n. negative_words (first_words n d)) q);
        }

  pub call_refused : {r : Answer} {n : Numbers} → outcome r ≡ judge_filling d c k (length g) (length t) (length t') → judge_filling d c k (length g) (length t) (length t') ≡ refused n
      → RootsFilled d c k g t t' r g t t'
  call_refused told e =
      record {
        answer = told;
        row = kept_refused g (ones_words c) e;
        first = kept_refused t (first_words (exponent c) d) e;
        second = kept_refused t' (negative_words (first_words (exponent c) d)) e;
      }
