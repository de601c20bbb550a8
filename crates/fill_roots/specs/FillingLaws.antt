-- Laws of the job of filling: which rates pass, which refusal decides, what is known of slices that were filled, and whose values their codewords are. Assumes nothing.
use Rattle.std.specs.Prelude.{◌≡◌, refl, Bool, true, false, ◌&&◌, List, map, ◌↔◌, ◌⊎◌, ℕ, zero, suc, ◌+◌, ◌^◌, ◌<◌, ◌≤◌, eqb, length}
use Rattle.std.proofs.Common.{sym, ap, ap₂, subst, ◌∙◌, inl, inr, ⊎_elim, pow-suc, mul-one, one-mul, arith, eqb-true, eq-eqb, ne_eqb, pow_pos}
use Rattle.std.proofs.Math.Decide.{dec_lt}
use Rattle.std.proofs.Math.Pow.{pow-lt}
use Rattle.algebra.specs.Fields.{F₂}
use Rattle.algebra.specs.Flags.{cond_true, cond_false}
use Rattle.algebra.specs.Words.{𝔽₂}
use Rattle.algebra.specs.WordLists.{elements, to_words}
use Rattle.roots.specs.RootCode.{Order, powers, value, reversed}
use Rattle.roots.specs.SecondField.{root₂}
use Rattle.job.specs.Outcome.{Answer}
use Rattle.job.specs.Outcome.{unplaced, Outcome, refused, done, outcome, require, ◌⨾◌, kept}
use Rattle.job.specs.OutcomeLaws.{stop, pass, holds, refuses, held, require_done}
use Rattle.job.specs.Limits.{max_depth, max_rate, rate_ok, block_size, diagonals_size}
use Rattle.job.specs.LimitLaws.{rate_least, rate_most}
use Rattle.job.specs.Sizes.{k0_ok, depth_ok, in_limits, base_size}
use Rattle.job.specs.SizeLaws.{limits_done, within}
use Rattle.base_parameters.specs.Parameters.{row_lengths, legal_rows, LegalRows}
use Rattle.base_parameters.specs.ParameterLaws.{row_lengths_lem}
use Rattle.base_spread.specs.LentRows.{codeword_rows}
use Rattle.root_rows.specs.Rule.{ones_words, Room, ByRule}
use Rattle.root_rows.specs.RuleLaws.{log_most, root_order, values_rule}
use Rattle.fill_roots.specs.Accepted.{lengths_rule, words_rule, legal_filled}
use Rattle.fill_roots.specs.Filling.{TwoPower, exponent_to, exponent, is_two_power, judge_filling, RootsFilled}

-- what is found is the exponent, and a power's is found
pub found : (k c : ℕ) → (exponent_to k c ≡ 0) ⊎ (c ≡ 2 ^ exponent_to k c)
unfolding exponent_to
found zero c = inl refl
found (suc k) c = go (eqb c (2 ^ suc k)) refl (found k c)
  where
    go : (b : Bool) → eqb c (2 ^ suc k) ≡ b → (exponent_to k c ≡ 0) ⊎ (c ≡ 2 ^ exponent_to k c) → (exponent_to (suc k) c ≡ 0) ⊎ (c ≡ 2 ^ exponent_to (suc k) c)
    go true p rest = inr (eqb-true c (2 ^ suc k) p ∙ ap (λ n. 2 ^ n) (sym (cond_true (suc k) (exponent_to k c) p)))
    go false p rest =
        let q = cond_false (suc k) (exponent_to k c) p in
        ⊎_elim (λ z. inl (q ∙ z)) (λ s. inr (s ∙ ap (λ n. 2 ^ n) (sym q))) rest

own : (k e : ℕ) → e ≤ k → exponent_to k (2 ^ e) ≡ e
unfolding exponent_to
own zero e h = omega arith
own (suc k) e h = go (own k e) (dec_lt e (suc k))
  where
    go : (e ≤ k → exponent_to k (2 ^ e) ≡ e) → Dec (e < suc k) → exponent_to (suc k) (2 ^ e) ≡ e
    go rest (yes l) = cond_false (suc k) _ (ne_eqb (2 ^ e) (2 ^ suc k) (λ q. omega (arith, pow-lt l, q))) ∙ rest (omega arith)
    go rest (no l) = let z : suc k ≡ e = omega arith in cond_true (suc k) _ (eq-eqb (2 ^ e) (2 ^ suc k) (ap (λ n. 2 ^ n) (sym z))) ∙ z

below_power : (e : ℕ) → e ≤ 2 ^ e
below_power zero = omega arith
below_power (suc e) = omega (arith, below_power e, pow-suc 2 e, pow_pos e)

pub exponent_power : (e : ℕ) → exponent (2 ^ e) ≡ e
exponent_power e = own (2 ^ e) e (below_power e)

-- the test is being a power of two
pub two_power : (c : ℕ) → (is_two_power c ≡ true) ↔ TwoPower c
two_power c = (
  λ e. record { log = exponent c; is = eqb-true c (2 ^ exponent c) e },
  λ p. eq-eqb c (2 ^ exponent c) (p.is ∙ ap (λ n. 2 ^ n) (sym (ap (λ n. exponent n) p.is ∙ exponent_power p.log))),
)

-- the legal rates that pass
pub rates_pass : (c : ℕ) → rate_ok c ≡ true → TwoPower c → (c ≡ 2) ⊎ (c ≡ 4) ⊎ (c ≡ 8) ⊎ (c ≡ 16)
rates_pass c r p = go p.log p.is (log_most p.log (omega (arith, p.is, rate_most c r)))
  where
    go : (e : ℕ) → c ≡ 2 ^ e → e ≤ 4 → (c ≡ 2) ⊎ (c ≡ 4) ⊎ (c ≡ 8) ⊎ (c ≡ 16)
    go zero q h = absurd (omega (arith, q, rate_least c r))
    go (suc zero) q h = inl q
    go (suc (suc zero)) q h = inr (inl q)
    go (suc (suc (suc zero))) q h = inr (inr (inl q))
    go (suc (suc (suc (suc zero)))) q h = inr (inr (inr q))
    go (suc (suc (suc (suc (suc e))))) q h = absurd (omega arith)

rate_at : {c : ℕ} (e : ℕ) → rate_ok (2 ^ e) ≡ true → c ≡ 2 ^ e → (rate_ok c ≡ true) × TwoPower c
rate_at e r q = (ap rate_ok q ∙ r, record { log = e; is = q })

pub rates_exactly : (c : ℕ) → ((rate_ok c ≡ true) × TwoPower c) ↔ ((c ≡ 2) ⊎ (c ≡ 4) ⊎ (c ≡ 8) ⊎ (c ≡ 16))
unfolding rate_ok
rates_exactly c = (λ p. rates_pass c p.0 p.1, ⊎_elim (rate_at 1 refl) (⊎_elim (rate_at 2 refl) (⊎_elim (rate_at 3 refl) (rate_at 4 refl))))

-- the rule is of one base row
one_legal : k0_ok 1 ≡ true
unfolding k0_ok
one_legal = refl

pub inside : (d c : ℕ) → depth_ok 1 d ≡ true → rate_ok c ≡ true → in_limits d c 1 ≡ true
inside d c deep fair = ap₂ ◌&&◌ deep (ap₂ ◌&&◌ fair one_legal)

-- 13 for every other k, behind 1 and 2
pub thirteen_due : (d c k g t t' : ℕ) → depth_ok 1 d ≡ true → rate_ok c ≡ true → (k ≡ 1 → ⊥) → refused (unplaced 13) ≡ judge_filling d c k g t t'
thirteen_due d c k g t t' deep fair more = pass 1 deep (pass 2 fair (stop (require (row_lengths d c 1 g t t') 3 ⨾ require (is_two_power c) 12) (ne_eqb k 1 more)))

-- 3 before 12, within the limits
module _ (d c k g t t' : ℕ) (deep : depth_ok 1 d ≡ true) (fair : rate_ok c ≡ true) (one : k ≡ 1) where
  behind : {o : Outcome (Unit {0})} → o ≡ require (row_lengths d c 1 g t t') 3 ⨾ require (is_two_power c) 12 → o ≡ judge_filling d c k g t t'
  behind h = pass 1 deep (pass 2 fair (pass 13 (eq-eqb k 1 one) h))

  pub three_due : row_lengths d c 1 g t t' ≡ false → refused (unplaced 3) ≡ judge_filling d c k g t t'
  three_due e = behind (stop (require (is_two_power c) 12) e)

  pub twelve_due : row_lengths d c 1 g t t' ≡ true → is_two_power c ≡ false → refused (unplaced 12) ≡ judge_filling d c k g t t'
  twelve_due e p = behind (pass 3 e (refuses (unplaced 12) p))

  pub nothing_due : row_lengths d c 1 g t t' ≡ true → is_two_power c ≡ true → done tt ≡ judge_filling d c k g t t'
  nothing_due e p = behind (pass 3 e (holds 12 p))

-- what is known where none of them is due
pub record FillingPassed (d c k g t t' : ℕ) : Type 0 where
  pub depth : depth_ok 1 d ≡ true
  pub rate : rate_ok c ≡ true
  pub one : k ≡ 1
  pub lengths : row_lengths d c 1 g t t' ≡ true
  pub power : TwoPower c

module _ (d c k g t t' : ℕ) where
  pub filling_exactly : (judge_filling d c k g t t' ≡ done tt) ↔ FillingPassed d c k g t t'
  filling_exactly = (
    λ e.
        let a = require_done (depth_ok 1 d) 1 e in
        let b = require_done (rate_ok c) 2 a.1 in
        let i = require_done (eqb k 1) 13 b.1 in
        let l = require_done (row_lengths d c 1 g t t') 3 i.1 in
        record { depth = a.0; rate = b.0; one = eqb-true k 1 i.0; lengths = l.0; power = (two_power c).0 (held (is_two_power c) 12 l.1) },
    λ p. sym (nothing_due d c k g t t' p.depth p.rate p.one p.lengths ((two_power c).1 p.power)),
  )

  module _ (e : judge_filling d c k g t t' ≡ done tt) where
    pub deep : d ≤ max_depth
    deep = let p = filling_exactly.0 e in (within d c 1 (inside d c p.depth p.rate)).depth

    pub power_is : c ≡ 2 ^ exponent c
    power_is = eqb-true c (2 ^ exponent c) ((two_power c).1 (filling_exactly.0 e).power)

    pub power_most : 2 ^ exponent c ≤ max_rate
    power_most = omega (arith, power_is, rate_most c (filling_exactly.0 e).rate)

    -- the slices have the rule's lengths
    pub room : Room d (exponent c) g t t'
    room =
        let l = row_lengths_lem d c 1 g t t' (filling_exactly.0 e).lengths in
        let base : base_size c 1 ≡ 2 ^ exponent c = mul-one c ∙ power_is in
        record {
          depth = deep;
          rate = power_most;
          row = l.row ∙ one-mul (base_size c 1) ∙ base;
          first = l.first ∙ ap (λ n. diagonals_size n d) base;
          second = l.second ∙ ap (λ n. diagonals_size n d) base;
        }

-- a call
module _ (d c k : ℕ) (g t t' : List ℕ) (r : Answer) (g₁ t₁ t₁' : List ℕ) (𝓒 : RootsFilled d c k g t t' r g₁ t₁ t₁') where
  -- is done exactly at a legal depth, a rate of 2, 4, 8 or 16 and k = 1, with slices of the exact lengths
  pub done_exactly : (outcome r ≡ done tt) ↔ FillingPassed d c k (length g) (length t) (length t')
  done_exactly =
      let x = filling_exactly d c k (length g) (length t) (length t') in
      (λ e. x.0 (sym 𝓒.answer ∙ e), λ p. 𝓒.answer ∙ x.1 p)

  module _ (e : outcome r ≡ done tt) where
    judged : judge_filling d c k (length g) (length t) (length t') ≡ done tt
    judged = sym 𝓒.answer ∙ e

    is : c ≡ 2 ^ exponent c
    is = power_is d c k (length g) (length t) (length t') judged

    shallow : d ≤ max_depth
    shallow = deep d c k (length g) (length t) (length t') judged

    most : 2 ^ exponent c ≤ max_rate
    most = power_most d c k (length g) (length t) (length t') judged

    new : (old made out : List ℕ) → out ≡ kept (judge_filling d c k (length g) (length t) (length t')) old made → out ≡ made
    new old made out h = h ∙ ap (λ o. kept o old made) judged

    pub filled_rule : ByRule d (exponent c) g₁ t₁ t₁'
    filled_rule =
        record {
          row = new g (ones_words c) g₁ 𝓒.row ∙ ap ones_words is;
          first = new t _ t₁ 𝓒.first;
          second = new t' _ t₁' 𝓒.second;
        }

    -- no job refuses what it left
    pub filled_legal : LegalRows 𝔽₂ d c 1 g₁ t₁ t₁'
    filled_legal =
        let x = done_exactly.0 e in
        record {
          within = sym (limits_done d c 1 (inside d c x.depth x.rate));
          lengths =
              ap (λ n. row_lengths d n 1 (length g₁) (length t₁) (length t₁')) is
              ∙ lengths_rule d (exponent c) shallow most g₁ t₁ t₁' filled_rule;
          words = words_rule d (exponent c) shallow most g₁ t₁ t₁' filled_rule;
          legal =
              ap (λ n. legal_rows 𝔽₂ 1 (base_size n 1) g₁ t₁ t₁') is
              ∙ legal_filled d (exponent c) shallow most g₁ t₁ t₁' filled_rule;
        }

    -- the table's entry has the order n_d
    pub filled_order : Order F₂.ring (root₂ (exponent c + d)) (block_size c d)
    filled_order =
        subst (λ n. Order F₂.ring (root₂ (exponent c + d)) (block_size n d)) (sym is)
        (root_order (exponent c) d (omega (arith, log_most (exponent c) most, shallow)))

    -- the codeword of a message is the list of values of one polynomial, its coefficients the message in bit-reversed order, at the powers 0 .. n_d - 1 of it
    pub filled_values : (m : List ℕ) → length m ≡ 2 ^ d
        → codeword_rows 𝔽₂ d 1 (base_size c 1) g₁ t₁ t₁' m
        ≡ to_words 𝔽₂ (map (value F₂.ring (reversed F₂.ring d (elements 𝔽₂ m))) (powers F₂.ring (root₂ (exponent c + d)) (block_size c d)))
    filled_values m h =
        ap (λ n. codeword_rows 𝔽₂ d 1 n g₁ t₁ t₁' m) (mul-one c ∙ is)
        ∙ ap (to_words 𝔽₂)
        (values_rule d (exponent c) shallow most g₁ t₁ t₁' filled_rule m h
        ∙ ap (λ n. map (value F₂.ring (reversed F₂.ring d (elements 𝔽₂ m))) (powers F₂.ring (root₂ (exponent c + d)) (block_size n d))) (sym is))
