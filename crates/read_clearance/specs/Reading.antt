-- What reading a word as a clearance gives. Assumes nothing.
use Rattle.std.specs.Prelude.{[], ◌∷◌, ℕ, Result, Ok, Err}
use Rattle.job.specs.declared.Refusal.{Refusal}
use Rattle.algebra.specs.Words.{PrimeField}
use Rattle.job.specs.declared.Input.TheVariants.{Block}
use Rattle.job.specs.Outcome.{Outcome, refused, done, ◌⨾◌, due}
use Rattle.places.specs.Inputs.{judge_words}
use Rattle.clearance.specs.Clearances.{clearance_of, Meaning, free, contact, overlap, meaning}
use Rattle.read_clearance.specs.declared.Reading.{Reading}
use Rattle.read_clearance.specs.declared.Reading.TheVariants.{Free, Contact, Overlap}

-- the word counts as the block: refusal 4 where it is no residue of the field, else what the clearance means
abbrev pub reading : PrimeField → ℕ → Outcome Meaning
reading 𝓕 w = judge_words 𝓕 ((Block, w ∷ []) ∷ []) ⨾ done (meaning (clearance_of 𝓕 w))

-- what each case of the answer says
abbrev pub reading_outcome : Result Reading Refusal → Outcome Meaning
reading_outcome (Ok (Free n)) = done (free n)
reading_outcome (Ok Contact) = done contact
reading_outcome (Ok (Overlap n)) = done (overlap n)
reading_outcome (Err r) = refused (due r)
