use Rattle.std.proofs.Common.{◌≡◌, map}
use Rattle.serde_json.specs.View.{members_view}
use Rattle.book_laws.specs.Fields.{are_keys}
use Rattle.book_entries.proofs.fields.has_keys.Given as goal

-- what is left of the members has what is left of the keys, exactly where all have all
abbrev pub invariant-loop-name : goal.invariant-loop-name
invariant-loop-name l =
    are_keys (map (λ key. key.now) l.rest) (members_view l.name-iterator) ≡ are_keys (map (λ key. key.now) l.keys) (members_view l.initial.name-iterator)
