use Rattle.std.proofs.Common.{◌≡◌, ◌≢◌, ◌∷◌, ◌+◌, ℕ, List, None, ap, refl, subst}
use Rattle.std.specs.Prelude.{map, string_bytes}
use Rattle.message_text.specs.Givens.{IsGivenBy, texts_of}
use Rattle.message_text.specs.declared.given.Given.{Given}
use Rattle.message_text.proofs.GivenWords.{SoFar, first_word, goes_on}
use Rattle.message_text.proofs.words.givens_of.Goals as goal

pub returns-then-is_given-clause-fault : goal.returns-then-is_given-clause-fault
returns-then-is_given-clause-fault c =
    let words = map string_bytes c.args.words.now in
    let word = string_bytes c.in-Some.word.now in
    let more = map string_bytes c.in-Some.more.now in
    let givens = c.loop-word.givens.items in
    let given = c.in_ok-given.given in
    let parts : map string_bytes c.loop-word.rest.now ≡ word ∷ more = ap (map string_bytes) c.in-Some.ensures.cases.0 in
    let so : SoFar words c.loop-word.place (word ∷ more) givens =
    subst (λ (rest : List (List ℕ)). SoFar words c.loop-word.place rest givens) parts c.loop-word.invariant in
    let by : IsGivenBy word given = rw c.as_bytes.ensures.value at c.in_ok-given.ensures.given in
    let again : texts_of givens given.element ≢ None = rw c.deref.ensures.value at (c.is_given.ensures.yes c.if-is_given.true) in
    first_word words c.loop-word.place word more givens
    (λ front before w. (other : Given) × IsGivenBy w other × (other.element ≡ given.element) × (texts_of before given.element ≢ None)) so (given, by, refl, again)

pub loop-word-preserved : goal.loop-word-preserved
loop-word-preserved c =
    let words = map string_bytes c.args.words.now in
    let word = string_bytes c.in-Some.word.now in
    let more = map string_bytes c.in-Some.more.now in
    let givens = c.loop-word.givens.items in
    let given = c.in_ok-given.given in
    let parts : map string_bytes c.loop-word.rest.now ≡ word ∷ more = ap (map string_bytes) c.in-Some.ensures.cases.0 in
    let so : SoFar words c.loop-word.place (word ∷ more) givens =
    subst (λ (rest : List (List ℕ)). SoFar words c.loop-word.place rest givens) parts c.loop-word.invariant in
    let by : IsGivenBy word given = rw c.as_bytes.ensures.value at c.in_ok-given.ensures.given in
    let none : texts_of givens given.element ≡ None = rw c.deref.ensures.value at (c.is_given.ensures.no c.if-is_given.false) in
    goes_on words c.loop-word.place (c.loop-word.place + 1) word more givens c.push.new.self.items given refl c.in_ok-push.ensures.items by none so
