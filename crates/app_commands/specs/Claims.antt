-- Which files a command claims.
use Rattle.std.specs.Prelude.{List, [], ◌∷◌}
use Rattle.app_words.specs.Asked.{Asked, Names, serial, run, run_with_journal, blocks, audit, audit_blocks, pack, pack_blocks}
use Rattle.file_devices.specs.Claims.{Claimed, alone, to_read}

-- what is answered: the files of replies and of the new book, which no other run may write
abbrev pub answer_claims : Names → List Claimed
answer_claims names = alone names.replies ∷ alone names.new_book ∷ []

-- what is audited: the files of the book, of replies and of the new book, which no run may write meanwhile
abbrev pub audit_claims : Names → List Claimed
audit_claims names = to_read names.book ∷ to_read names.replies ∷ to_read names.new_book ∷ []

-- the files that a command writes are its own; those that it audits stay as they are
abbrev pub claims_for : Asked → List Claimed
claims_for (serial names strictness) = answer_claims names
claims_for (run names workers engine strictness) = answer_claims names
claims_for (blocks names workers engine strictness) = answer_claims names
claims_for (run_with_journal names workers journal strictness) = alone names.replies ∷ alone names.new_book ∷ alone journal ∷ []
claims_for (audit names journal) = audit_claims names
claims_for (audit_blocks names) = audit_claims names
claims_for (pack texts batch) = alone batch ∷ []
claims_for (pack_blocks texts file) = alone file ∷ []
claims_for what = []
