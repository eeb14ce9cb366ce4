-- One more call that wrote a part of the rest.
use Rattle.std.proofs.Common.{◌≡◌, ℕ, ◌-◌, List, [], ◌++◌, take, Result, Ok, Err, refl, sym, ap, ◌∙◌, append_assoc}
use Rattle.std.proofs.lemmas.List.{append-nil}
use Rattle.std.specs.Prelude.{OnErr}
use Rattle.log_file.specs.Growing.{AddsPart}
use Rattle.file_devices.proofs.Puts.{IsPut}

pub begins : (old bytes : List ℕ) → IsPut old old bytes bytes
begins old bytes = ([], sym (append-nil old), refl)

-- a call that failed wrote a beginning of the rest
pub fails : (old new new' bytes rest : List ℕ) → IsPut old new bytes rest → AddsPart new new' rest → AddsPart old new' bytes
fails old new new' bytes rest put part = (
  put.0 ++ part.0,
  (part.1.0, put.2 ∙ ap (λ (x : List ℕ). put.0 ++ x) part.1.1 ∙ sym (append_assoc put.0 part.0 part.1.0)),
  part.2 ∙ ap (λ (x : List ℕ). x ++ part.0) put.1 ∙ append_assoc old put.0 part.0,
)

-- a call that wrote nothing did, too
pub halts : (old new new' bytes rest : List ℕ) → IsPut old new bytes rest → new' ≡ new ++ take 0 rest → AddsPart old new' bytes
halts old new new' bytes rest put none = fails old new new' bytes rest put ([], (rest, refl), none)

-- all of the bytes were added
pub all_added : (synced unsynced bytes synced' unsynced' whole : List ℕ) → synced' ≡ synced → unsynced' ≡ unsynced ++ bytes → whole ≡ synced' ++ unsynced' → AddsPart (synced ++ unsynced) whole bytes
all_added synced unsynced bytes synced' unsynced' whole s u w =
    (bytes, ([], sym (append-nil bytes)), w ∙ rw (s, u) (sym (append_assoc synced unsynced bytes)))

pub always_err : {T E P : Type 0} (r : Result T E) → P → OnErr r P
always_err (Ok x) p = tt
always_err (Err e) p = p
