-- Laws of outcomes: which refusal decides, what a buffer holds then, and that an outcome says which answer was given. Assumes nothing.
use Rattle.std.specs.Prelude.{◌≡◌, refl, Bool, true, false, ◌&&◌, List, ℕ, zero, suc, Result, Ok, Err}
use Rattle.std.proofs.Common.{sym, ap, ap₂, subst, ◌∙◌, arith}
use Rattle.job.specs.declared.Input.{Input}
use Rattle.job.specs.declared.Input.TheVariants.{G, T, T2, Block, Z, Y, R, Opening}
use Rattle.job.specs.declared.Refusal.{Refusal}
use Rattle.job.specs.declared.Refusal.TheVariants.{Depth, Rate, Length, Word, BaseRow, Diagonals, Queries, NoCodeword, Clearance, Repeated, NoPowerOfTwo, BaseWords}
use Rattle.job.specs.Outcome.{Numbers, unplaced, Outcome, refused, done, input_number, due, outcome, demand, require, unless, ◌⨾◌, kept}

-- what the first outcome decides of two
pub after_refused : {A B : Type 0} {o : Outcome A} (next : Outcome B) {n : Numbers} → refused n ≡ o → refused n ≡ o ⨾ next
after_refused next e = ap (λ o. o ⨾ next) e

pub after_done : {A B : Type 0} {o : Outcome A} {next x : Outcome B} {a : A} → done a ≡ o → x ≡ next → x ≡ o ⨾ next
after_done {next = next} e f = f ∙ ap (λ o. o ⨾ next) e

pub stop : {B : Type 0} {b : Bool} {n : Numbers} (next : Outcome B) → b ≡ false → refused n ≡ demand b n ⨾ next
stop {n = n} next e = sym (ap (λ t. demand t n ⨾ next) e)

-- of a test that was only asked where another holds
pub stop_within : {B : Type 0} (a b : Bool) {n : Numbers} (next : Outcome B) → a ≡ true → (a && b) ≡ false → refused n ≡ demand b n ⨾ next
stop_within a b next e f = stop next (sym (ap (λ x. x && b) e) ∙ f)

pub pass_demand : {B : Type 0} {b : Bool} (n : Numbers) {next x : Outcome B} → b ≡ true → x ≡ next → x ≡ demand b n ⨾ next
pass_demand n {next = next} e f = f ∙ sym (ap (λ t. demand t n ⨾ next) e)

pub pass : {B : Type 0} {b : Bool} (n : ℕ) {next x : Outcome B} → b ≡ true → x ≡ next → x ≡ require b n ⨾ next
pass n e f = pass_demand (unplaced n) e f

-- the last test of all
pub holds_demand : {b : Bool} (n : Numbers) → b ≡ true → done tt ≡ demand b n
holds_demand n e = sym (ap (λ t. demand t n) e)

pub holds : {b : Bool} (n : ℕ) → b ≡ true → done tt ≡ require b n
holds n e = holds_demand (unplaced n) e

-- and the last one that fails
pub refuses : {b : Bool} (n : Numbers) → b ≡ false → refused n ≡ demand b n
refuses n e = sym (ap (λ t. demand t n) e)

pub demand_held : (b : Bool) (n : Numbers) → demand b n ≡ done tt → b ≡ true
demand_held true n e = refl
demand_held false n e = absurd (let z : ◌≡◌ {A = ℕ} 0 1 = cc in omega arith)

pub held : (b : Bool) (n : ℕ) → require b n ≡ done tt → b ≡ true
held b n e = demand_held b (unplaced n) e

pub demand_done : {B : Type 0} (b : Bool) (n : Numbers) {next : Outcome B} {a : B} → demand b n ⨾ next ≡ done a → (b ≡ true) × (next ≡ done a)
demand_done true n e = (refl, e)
demand_done false n e = absurd (let z : ◌≡◌ {A = ℕ} 0 1 = cc in omega arith)

pub require_done : {B : Type 0} (b : Bool) (n : ℕ) {next : Outcome B} {a : B} → require b n ⨾ next ≡ done a → (b ≡ true) × (next ≡ done a)
require_done b n e = demand_done b (unplaced n) e

-- a chain of requirements, link by link: each test by what it is equal to, and the last one
pub link : {B : Type 0} (b : Bool) (n : ℕ) {a : Bool} {o next next' : Outcome B} → o ≡ require a n ⨾ next → a ≡ b → next ≡ next' → o ≡ require b n ⨾ next'
link b n e t r = e ∙ ap₂ (λ b o. require b n ⨾ o) t r

pub last : (b : Bool) (n : ℕ) {a : Bool} {o : Outcome (Unit {0})} → o ≡ require a n ⨾ done tt → a ≡ b → o ≡ require b n
last b n {a} e t = e ∙ end a ∙ ap (λ b. require b n) t
  where
    end : (a : Bool) → require a n ⨾ done tt ≡ require a n
    end true = refl
    end false = refl

-- a flag that is only set where nothing is due may be asked first
pub unless_is : (b : Bool) (o : Outcome (Unit {0})) → (b ≡ true → o ≡ done tt) → unless b o ≡ o
unless_is true o h = sym (h refl)
unless_is false o h = refl

-- a chain may be parted anywhere
pub chain : {A B C : Type 0} (a : Outcome A) (b : Outcome B) (c : Outcome C) → (a ⨾ b) ⨾ c ≡ a ⨾ b ⨾ c
chain (refused n) b c = refl
chain (done x) b c = refl

-- an outcome is done where all are
pub both : {A : Type 0} (o : Outcome (Unit {0})) {next : Outcome A} {a : A} → o ⨾ next ≡ done a → (o ≡ done tt) × (next ≡ done a)
both (refused n) e = absurd (let z : ◌≡◌ {A = ℕ} 0 1 = cc in omega arith)
both (done tt) e = (refl, e)

-- a buffer after a job that is done, and after one that is refused
pub kept_done : {A B : Type 0} {o : Outcome A} {a : A} (old : List B) {new out : List B} → o ≡ done a → out ≡ new → out ≡ kept o old new
kept_done old {new = new} e f = f ∙ sym (ap (λ o. kept o old new) e)

pub kept_refused : {A B : Type 0} {o : Outcome A} {n : Numbers} (old new : List B) → o ≡ refused n → old ≡ kept o old new
kept_refused old new e = sym (ap (λ o. kept o old new) e)

-- what a refusal names
abbrev pub named : {A : Type 0} → Outcome A → Numbers
named (refused n) = n
named (done a) = (0, 0, 0)

pub same_refusal : {A B : Type 0} {k n : Numbers} → ◌≡◌ {A = Outcome A} (refused k) (refused n) → ◌≡◌ {A = Outcome B} (refused k) (refused n)
same_refusal e = ap (λ o. refused (named o)) e

-- a refusal that one of two outcomes does not give comes from the other
pub from_second : {B : Type 0} (o : Outcome (Unit {0})) {next : Outcome B} {n : Numbers} → (o ≡ refused n → ⊥) → o ⨾ next ≡ refused n → (o ≡ done tt) × (next ≡ refused n)
from_second (refused k) f e = absurd (f (same_refusal e))
from_second (done tt) f e = (refl, e)

pub from_first : {B : Type 0} (o : Outcome (Unit {0})) {next : Outcome B} {n : Numbers} → (next ≡ refused n → ⊥) → o ⨾ next ≡ refused n → o ≡ refused n
from_first (refused k) f e = same_refusal e
from_first (done tt) f e = absurd (f e)

-- a test that refuses has failed, and names what it was given
pub refused_named : (b : Bool) (k : Numbers) {n : Numbers} → demand b k ≡ refused n → (b ≡ false) × (n ≡ k)
refused_named true k e = absurd (let z : ◌≡◌ {A = ℕ} 0 1 = cc in omega arith)
refused_named false k e = (refl, sym (ap named e))

-- what holds of the number of each test that may refuse holds of a refusal's
pub demand_number : (Q : ℕ → Type 0) (b : Bool) (k : Numbers) {n : Numbers} → Q k.0 → demand b k ≡ refused n → Q n.0
demand_number Q true k q e = absurd (let z : ◌≡◌ {A = ℕ} 0 1 = cc in omega arith)
demand_number Q false k q e = subst Q (ap (λ o. (named o).0) e) q

pub require_number : (Q : ℕ → Type 0) (b : Bool) (k : ℕ) {n : Numbers} → Q k → require b k ≡ refused n → Q n.0
require_number Q b k q e = demand_number Q b (unplaced k) q e

pub after_number : {A B : Type 0} (Q : ℕ → Type 0) (o : Outcome A) {next : Outcome B} {n : Numbers} → (o ≡ refused n → Q n.0) → (next ≡ refused n → Q n.0)
    → o ⨾ next ≡ refused n → Q n.0
after_number Q (refused k) f g e = f (same_refusal e)
after_number Q (done a) f g e = g e

-- no refusal has the number 0
pub number_positive : (r : Refusal) → (due r).0 ≡ 0 → ⊥
number_positive Depth e = omega arith
number_positive Rate e = omega arith
number_positive Length e = omega arith
number_positive (Word i k) e = omega arith
number_positive (BaseRow k) e = omega arith
number_positive (Diagonals k) e = omega arith
number_positive Queries e = omega arith
number_positive NoCodeword e = omega arith
number_positive Clearance e = omega arith
number_positive Repeated e = omega arith
number_positive NoPowerOfTwo e = omega arith
number_positive BaseWords e = omega arith

-- an input is determined by its number, and an answer by its outcome
abbrev of_input : ℕ → Input
of_input zero = G
of_input (suc zero) = G
of_input (suc (suc zero)) = T
of_input (suc (suc (suc zero))) = T2
of_input (suc (suc (suc (suc zero)))) = Block
of_input (suc (suc (suc (suc (suc zero))))) = Z
of_input (suc (suc (suc (suc (suc (suc zero)))))) = Y
of_input (suc (suc (suc (suc (suc (suc (suc zero))))))) = R
of_input (suc (suc (suc (suc (suc (suc (suc (suc n)))))))) = Opening

of_input_lem : (i : Input) → of_input (input_number i) ≡ i
of_input_lem G = refl
of_input_lem T = refl
of_input_lem T2 = refl
of_input_lem Block = refl
of_input_lem Z = refl
of_input_lem Y = refl
of_input_lem R = refl
of_input_lem Opening = refl

abbrev of_number : ℕ → ℕ → ℕ → Refusal
of_number zero k i = Depth
of_number (suc zero) k i = Depth
of_number (suc (suc zero)) k i = Rate
of_number (suc (suc (suc zero))) k i = Length
of_number (suc (suc (suc (suc zero)))) k i = Word (of_input i) k
of_number (suc (suc (suc (suc (suc zero))))) k i = BaseRow k
of_number (suc (suc (suc (suc (suc (suc zero)))))) k i = Diagonals k
of_number (suc (suc (suc (suc (suc (suc (suc zero))))))) k i = Queries
of_number (suc (suc (suc (suc (suc (suc (suc (suc zero)))))))) k i = NoCodeword
of_number (suc (suc (suc (suc (suc (suc (suc (suc (suc zero))))))))) k i = Clearance
of_number (suc (suc (suc (suc (suc (suc (suc (suc (suc (suc zero)))))))))) k i = Repeated
of_number (suc (suc (suc (suc (suc (suc (suc (suc (suc (suc (suc zero))))))))))) k i = Repeated
of_number (suc (suc (suc (suc (suc (suc (suc (suc (suc (suc (suc (suc zero)))))))))))) k i = NoPowerOfTwo
of_number (suc (suc (suc (suc (suc (suc (suc (suc (suc (suc (suc (suc (suc n))))))))))))) k i = BaseWords

abbrev of_outcome : Outcome (Unit {0}) → Result (Unit {0}) Refusal
of_outcome (refused n) = Err (of_number n.0 n.1 n.2)
of_outcome (done a) = (Ok tt)

of_outcome_lem : (r : Result (Unit {0}) Refusal) → of_outcome (outcome r) ≡ r
of_outcome_lem (Ok tt) = refl
of_outcome_lem (Err Depth) = refl
of_outcome_lem (Err Rate) = refl
of_outcome_lem (Err Length) = refl
of_outcome_lem (Err (Word i k)) = ap (λ j. Err (Word j k)) (of_input_lem i)
of_outcome_lem (Err (BaseRow k)) = refl
of_outcome_lem (Err (Diagonals k)) = refl
of_outcome_lem (Err Queries) = refl
of_outcome_lem (Err NoCodeword) = refl
of_outcome_lem (Err Clearance) = refl
of_outcome_lem (Err Repeated) = refl
of_outcome_lem (Err NoPowerOfTwo) = refl
of_outcome_lem (Err BaseWords) = refl

pub same_answer : (r r' : Result (Unit {0}) Refusal) → outcome r ≡ outcome r' → r ≡ r'
same_answer r r' e = sym (of_outcome_lem r) ∙ ap of_outcome e ∙ of_outcome_lem r'
