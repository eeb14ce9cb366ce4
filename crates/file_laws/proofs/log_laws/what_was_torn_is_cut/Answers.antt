use Rattle.std.proofs.Common.{refl, replicate}
use Rattle.file_laws.specs.Texts.{last_digest}
use Rattle.file_laws.proofs.LogSteps.{all_zeros, beginning_torn, zeros_are}
use Rattle.file_laws.proofs.log_laws.what_was_torn_is_cut.Goals as goal

pub returns-clause-beginning : goal.returns-clause-beginning
returns-clause-beginning c = λ book entries bodies front rest are fit some e.
    record { stands = record { are = are; is = refl }; torn = beginning_torn (last_digest book entries) bodies front rest fit some e }

pub returns-clause-zeros : goal.returns-clause-zeros
returns-clause-zeros c = λ book entries count are.
    record { stands = record { are = are; is = refl }; torn = all_zeros (last_digest book entries) (replicate count 0) (zeros_are count) }
