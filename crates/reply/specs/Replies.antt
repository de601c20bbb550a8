-- What the exported functions answer and leave: the jobs' own contracts, with the answer as three numbers. Definitions only. Assumes nothing.
use Rattle.std.specs.Prelude.{◌≡◌, Bool, true, false, List, ℕ, ℤ, Result}
use Rattle.algebra.specs.Words.{PrimeField}
use Rattle.job.specs.declared.Refusal.{Refusal}
use Rattle.job.specs.declared.Reply.{Reply}
use Rattle.job.specs.Outcome.{Numbers, Outcome, Answer, refused, done, outcome}
use Rattle.residue.specs.Chosen.{chosen}
use Rattle.residue.specs.declared.Field.{Field as Choice}
use Rattle.residue.specs.declared.Field.TheVariants.{First, Second}
use Rattle.encode.specs.Encoding.{Encoded}
use Rattle.decode.specs.Decoding.{Decoded}
use Rattle.fold.specs.Job.{Folded}
use Rattle.open.specs.Writing.{Wrote}
use Rattle.evaluate.specs.Evaluation.{evaluation}
use Rattle.clearance.specs.Clearances.{Meaning, free, contact, overlap}
use Rattle.coefficients.specs.Job.{ToCoefficients}
use Rattle.table.specs.Job.{ToTable}
use Rattle.fill_roots.specs.Filling.{RootsFilled}
use Rattle.reply.specs.declared.reading.ReadingReply.{ReadingReply}

-- the field that a call names: false is the integers modulo 2147483647, true those modulo 2013265921
abbrev pub choice_of : Bool → Choice
choice_of false = First
choice_of true = Second

abbrev pub field_of : Bool → PrimeField
field_of b = chosen (choice_of b)

-- a number and its places
abbrev pub triple : Numbers → Reply
triple n = record { number = n.0; first = n.1; second = n.2 }

-- 0 where a job is done, else the refusal's number and places
abbrev pub reply : {A : Type 0} → Outcome A → Reply
reply (refused n) = triple n
reply (done a) = triple (0, 0, 0)

-- a single result: written only where the job is done
abbrev pub given : Outcome ℕ → ℕ → ℕ
given (refused n) old = old
given (done v) old = v

-- a reading: its answer, its kind and its amount, which are 0 where the word is refused
abbrev pub reading_reply : Outcome Meaning → ReadingReply
reading_reply (refused n) = record { answer = triple n; kind = 0; amount = 0 }
reading_reply (done (free n)) = record { answer = triple (0, 0, 0); kind = 1; amount = n }
reading_reply (done contact) = record { answer = triple (0, 0, 0); kind = 3; amount = 0 }
reading_reply (done (overlap n)) = record { answer = triple (0, 0, 0); kind = 2; amount = n }

-- a single result, by the reply: the value where its number is 0, and else as it was
pub data Single (answer : Outcome ℕ) (r : Reply) (old value : ℕ) : Type 0 where
  written : r.number ≡ 0 → answer ≡ done value → Single answer r old value
  left : (r.number ≡ 0 → ⊥) → (n : Numbers) → r ≡ triple n → answer ≡ refused n → value ≡ old → Single answer r old value

-- a call of a job: the reply tells some answer, and with that answer the job's own contract holds
module _ (𝓕 : PrimeField) where
  pub record ToCoefficientsCall (k : ℕ) (t : List ℤ) (old new : List ℕ) (r : Reply) : Type 0 where
    pub job : Answer
    pub answer : r ≡ reply (outcome job)
    pub result : ToCoefficients 𝓕 k t old new job

  pub record ToTableCall (k : ℕ) (m : List ℕ) (old new : List ℤ) (work left : List ℕ) (r : Reply) : Type 0 where
    pub job : Answer
    pub answer : r ≡ reply (outcome job)
    pub result : ToTable 𝓕 k m old new work left job

  pub record EncodeCall (d c k : ℕ) (g t t' m old : List ℕ) (r : Reply) (out : List ℕ) : Type 0 where
    pub job : Answer
    pub answer : r ≡ reply (outcome job)
    pub result : Encoded 𝓕 d c k g t t' m old job out

  pub record DecodeCall (d c k : ℕ) (g t t' w old space : List ℕ) (r : Reply) (out work : List ℕ) : Type 0 where
    pub job : Answer
    pub answer : r ≡ reply (outcome job)
    pub result : Decoded 𝓕 d c k g t t' w old space job out work

  pub record FoldCall (level c k : ℕ) (t t' w : List ℕ) (a : ℕ) (old : List ℕ) (r : Reply) (out : List ℕ) : Type 0 where
    pub job : Answer
    pub answer : r ≡ reply (outcome job)
    pub result : Folded 𝓕 level c k t t' w a old job out

  pub record EvaluateCall (d k : ℕ) (m z : List ℕ) (old : ℕ) (r : Reply) (value : ℕ) : Type 0 where
    pub job : Result ℕ Refusal
    pub answer : r ≡ reply (outcome job)
    pub result : outcome job ≡ evaluation 𝓕 d k m z
    pub single : value ≡ given (outcome job) old

  pub record WriteCall (d c k : ℕ) (g t t' m z r old space : List ℕ) (value : ℕ) (a : Reply) (out work : List ℕ) (value' : ℕ) : Type 0 where
    pub job : Result ℕ Refusal
    pub answer : a ≡ reply (outcome job)
    pub result : Wrote 𝓕 d c k g t t' m z r old space job out work
    pub single : value' ≡ given (outcome job) value

-- filling names no field: it is of the second one
pub record FillCall (d c k : ℕ) (g t t' : List ℕ) (r : Reply) (g₁ t₁ t₁' : List ℕ) : Type 0 where
  pub job : Answer
  pub answer : r ≡ reply (outcome job)
  pub result : RootsFilled d c k g t t' job g₁ t₁ t₁'
