use Rattle.std.proofs.Common.{◌≡◌, ◌++◌, ◌∷◌, [], Option, None, Ok, IfSome, sym, ap, subst, ◌∙◌, rules}
use Rattle.std.specs.FinMap as map
use Rattle.issuer_words.specs.Words.{IsOfKind, Reads, RowKey, RowVal, Rows, key_eq}
use Rattle.indexmap.specs.IndexMap.{insert_entry}
use Rattle.issuer_view.proofs.KindLaws.{inserted_suits}
use Rattle.std.proofs.lemmas.List.{append_assoc}
use Rattle.issuer_view.proofs.LogLaws.{latest_logged}
use Rattle.issuer_view.proofs.ListLaws.{inserted_once, put_among, put_after, absent_front, found_behind}
use Rattle.issuer_view.specs.Recording.{AsksOnce}
use Rattle.issuer_view.specs.RowSets.{value_in, latest, logged, AreReadsOfKind, IsOnceEach}
use Rattle.issuer_view.proofs.read_set.ReadSet.ask.Goals as goal

-- rows with one more that was read are of their kinds, each once
all_read : (rows now : Reads) (k : RowKey) (v : Option RowVal) → insert_entry key_eq rows k v ≡ now → AreReadsOfKind rows → IsOnceEach rows → IfSome v (IsOfKind k) → AreReadsOfKind now × IsOnceEach now
all_read rows now k v is kinds once kind =
    subst (λ (rows : Reads). AreReadsOfKind rows × IsOnceEach rows) is (inserted_suits (λ k row. IfSome row (IsOfKind k)) rows k v kinds kind, inserted_once rows k v once)

-- the row was not read yet, neither among the first ones nor behind them
absent : (few more now : Reads) (key : RowKey) → few ++ more ≡ now → value_in now key ≡ None → value_in few key ≡ None
absent few more now key is none = absent_front few more key (ap (λ (rows : Reads). value_in rows key) is ∙ none)

pub invariant_of-self-then-len-lt-FEW : goal.invariant_of-self-then-len-lt-FEW
invariant_of-self-then-len-lt-FEW g c =
    let few = c.self.inside.few in
    let more = c.self.inside.more in
    let none = absent few more _ c.args.key.now c.self.view_is c.requires in
    let empty = c.self.invariant.2 (search rules) in
    let last = c.in_ok-ask.ensures.ok in
    let all = all_read (few ++ more) _ c.args.key.now (latest c.ask.new.self) (put_among few more c.args.key.now (latest c.ask.new.self) none _ empty last) c.self.invariant.0 c.self.invariant.1 c.in_ok-ask.ensures.kind in
    (all.0, all.1, λ _. empty)

pub ask_more-requires : goal.ask_more-requires
ask_more-requires g c =
    let few = c.self.inside.few in
    let more = c.self.inside.more in
    sym (found_behind few more c.args.key.now (absent few more _ c.args.key.now c.self.view_is c.requires)) ∙ ap (λ (rows : Reads). value_in rows c.args.key.now) c.self.view_is ∙ c.requires

pub invariant_of-self-2 : goal.invariant_of-self-2
invariant_of-self-2 g c =
    let few = c.self.inside.few in
    let more = c.self.inside.more in
    let none = absent few more _ c.args.key.now c.self.view_is c.requires in
    let nowhere = ap (λ (rows : Reads). value_in rows c.args.key.now) c.self.view_is ∙ c.requires in
    let is = put_after few more c.args.key.now (latest c.ask_more.new.self) none nowhere ∙ ap (λ (rest : Reads). few ++ rest) (sym c.in_ok-ask_more.ensures.ok) in
    let all = all_read (few ++ more) _ c.args.key.now (latest c.ask_more.new.self) is c.self.invariant.0 c.self.invariant.1 c.in_ok-ask_more.ensures.kind in
    (all.0, all.1, λ small. absurd (search rules))

-- what was read last is what was read last behind the first rows
last : (g : _) (c : goal.In_ok-ask_more g) → latest c.ask_more.new.self ≡ latest (c.self.inside.few ++ c.ask_more.new.self)
last g c =
    sym (ap (λ (more : Reads). latest (c.self.inside.few ++ more)) c.in_ok-ask_more.ensures.ok ∙ latest_logged None c.self.inside.few c.self.inside.more c.args.key.now (latest c.ask_more.new.self))

pub returns-clause-asked : goal.returns-clause-asked
returns-clause-asked g c = subst (λ (row : Option RowVal). AsksOnce g.S.RowSource.answers c.args.source.now c.args.key.now (Ok row) c.ask_more.new.source) (last g c) c.in_ok-ask_more.ensures.asked

pub returns-clause-ok : goal.returns-clause-ok
returns-clause-ok g c =
    let few = c.self.inside.few in
    let more = c.self.inside.more in
    let behind : few ++ c.ask_more.new.self ≡ logged (few ++ more) c.args.key.now (latest c.ask_more.new.self) = ap (λ (rest : Reads). few ++ rest) c.in_ok-ask_more.ensures.ok ∙ sym (append_assoc few more ((c.args.key.now, latest c.ask_more.new.self) ∷ [])) in
    behind ∙ ap (λ (row : Option RowVal). logged (few ++ more) c.args.key.now row) (last g c) ∙ ap (λ (rows : Reads). logged rows c.args.key.now (latest (few ++ c.ask_more.new.self))) c.self.view_is

pub returns-clause-kind : goal.returns-clause-kind
returns-clause-kind g c = subst (λ (row : Option RowVal). IfSome row (IsOfKind c.args.key.now)) (last g c) c.in_ok-ask_more.ensures.kind

pub returns-clause-known : goal.returns-clause-known
returns-clause-known g c =
    subst (λ (row : Option RowVal). IfSome (g.S.RowSource.book c.args.source.now) (λ (rows : Rows). row ≡ map.get rows c.args.key.now)) (last g c) c.in_ok-ask_more.ensures.known
