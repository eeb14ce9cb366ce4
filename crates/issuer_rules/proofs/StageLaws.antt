-- How a stage of a decision goes on, and how it ends.
use Rattle.std.proofs.Common.{◌≡◌, ◌⊎◌, ℕ, List, [], ◌∷◌, ◌++◌, true, Option, Some, None, Result, Ok, Err, IfSome, IsErrAnd, inl, refl, sym, ap, subst, ◌∙◌}
use Rattle.std.proofs.lemmas.Result.{err_from_is_err_and}
use Rattle.issuer_words.specs.Words.{Frame, ReplyBody, RowKey, RowVal, Rows, kind_of, plan_of}
use Rattle.issuer_rows.specs.Plan.{Plan, Answer, Writes}
use Rattle.issuer_rules.proofs.FollowingLaws.{begins, follows_needs, concluded, concluded_needs, first_put, has_no_kind, kinds_more, stops_kept, unread}
use Rattle.issuer_rules.proofs.PutLaws.{without_puts}
use Rattle.issuer_rules.specs.Following.{Follows, Concludes, IsAt, kinds_read}
use Rattle.issuer_rules.specs.Stage.{DecidesByTable}
use Rattle.issuer_view.specs.Recording.{Recording, IsNew, IsStopOf, kept}
use Rattle.issuer_view.specs.RowSets.{logged, put}
use Rattle.issuer_view.specs.declared.stop.Stop.{Stop}
use Rattle.issuer_view.specs.declared.stop.Stop.TheVariants.{OutOfMemory}

-- a decision that has read nothing is at the beginning of its plan
pub starts : {S : Type 0} {rows : Recording S} (frame : Frame) → IsNew rows → IsAt frame rows [] (plan_of frame)
starts frame new = record { follows = begins frame _ _ new.0 new.1; kinds = ap kinds_read new.0 }

-- a row of a kind that was not read yet is neither read nor written
pub unread_at : {S : Type 0} {frame : Frame} {rows : Recording S} {read : List ℕ} {plan : Plan} (key : RowKey) → IsAt frame rows read plan → has_no_kind read key ≡ true → kept rows key ≡ None
unread_at {frame = frame} {rows = rows} {read = read} {plan = plan} key at none = unread rows frame plan read key at.follows at.kinds none

-- one more row was read on the way to the plan
pub reaches : {S : Type 0} {frame : Frame} {old new : Recording S} {read : List ℕ} {before plan : Plan} (key : RowKey) (row : Option RowVal)
    → IsAt frame old read before → new.reads ≡ logged old.reads key row → Follows frame new.reads new.writes plan → IsAt frame new (read ++ kind_of key ∷ []) plan
reaches key row at logged follows = record { follows = follows; kinds = kinds_more _ _ _ _ _ at.kinds logged }

always : {P : Type 0} (rows : Option Rows) → P → IfSome rows (λ _. P)
always (Some rows) holds = holds
always None holds = tt

module _ {S T : Type 0} {answers : S → RowKey → Result (Option RowVal) Stop → S → Type 0} {book_of : S → Option Rows} {frame : Frame} {reply : T → ReplyBody} {old new : Recording S} where
  -- it goes on, where the book stayed
  pub goes_on : {mid : Recording S} {result : Result T Stop} → book_of mid.source ≡ book_of old.source → DecidesByTable answers book_of frame reply mid new result → DecidesByTable answers book_of frame reply old new result
  goes_on {result = result} same rest = record {
    done = rest.done;
    so_far = rest.so_far;
    stop = rest.stop;
    stops = stops_kept _ _ result same rest.stops;
    book = rest.book ∙ same;
  }

  -- a question stops it, and that is passed on
  pub stops_asking : {plan : Plan} {stop : Stop} {result : Result T Stop} → Follows frame old.reads old.writes plan → new.reads ≡ old.reads → (stop ≡ OutOfMemory) ⊎ IsStopOf answers new.source stop
      → IfSome (book_of old.source) (λ _. stop ≡ OutOfMemory) → book_of new.source ≡ book_of old.source → IsErrAnd result (λ passed. passed ≡ stop) → DecidesByTable answers book_of frame reply old new result
  stops_asking {stop = stop} {result = result} follows same stopped stops stays passed =
      let is = err_from_is_err_and result passed in
      subst (DecidesByTable answers book_of frame reply old new) (sym (is.1 ∙ ap Err is.2)) (record {
        done = tt;
        so_far = follows_needs _ _ _ _ _ follows same;
        stop = stopped;
        stops = stops;
        book = stays;
      })

  -- out of memory stops it, at a row that is to be written
  pub stops_putting : {plan : Plan} {stop : Stop} {result : Result T Stop} → Follows frame old.reads old.writes plan → without_puts new ≡ without_puts old → stop ≡ OutOfMemory
      → IsErrAnd result (λ passed. passed ≡ stop) → DecidesByTable answers book_of frame reply old new result
  stops_putting follows same stop passed =
      stops_asking follows (ap (λ (r : Recording S). r.reads) same) (inl stop) (always (book_of old.source) stop) (ap (λ (r : Recording S). book_of r.source) same) passed

  -- it has come to its end
  pub concludes : {value : T} → Concludes frame new.reads new.writes (reply value) → without_puts new ≡ without_puts old → DecidesByTable answers book_of frame reply old new (Ok value)
  concludes done same = record {
    done = done;
    so_far = concluded_needs _ _ _ _ done;
    stop = tt;
    stops = always (book_of old.source) tt;
    book = ap (λ (r : Recording S). book_of r.source) same;
  }

  -- the plan is an answer, its rows are written, and it is given
  pub answers_with : {said : ReplyBody} {writes : Writes} {value : T} → Follows frame old.reads old.writes (Answer said writes) → without_puts new ≡ without_puts old → new.writes ≡ writes → reply value ≡ said
      → DecidesByTable answers book_of frame reply old new (Ok value)
  answers_with follows same put given = concludes (concluded _ _ _ _ _ _ _ _ follows (ap (λ (r : Recording S). r.reads) same) put given) same

  -- the same, where that is one row
  pub answers_with_one : {said : ReplyBody} {key : RowKey} {row : RowVal} {entry : RowKey × RowVal} {value : T} → Follows frame old.reads old.writes (Answer said (entry ∷ []))
      → new ≡ record old { writes = put old.writes key row } → (key, row) ≡ entry → reply value ≡ said → DecidesByTable answers book_of frame reply old new (Ok value)
  answers_with_one follows is same given =
      answers_with follows (ap without_puts is) (first_put _ _ _ _ _ follows.unput (ap (λ (r : Recording S). r.writes) is) same) given

-- the same, where none is
pub answers_with_none : {S T : Type 0} {answers : S → RowKey → Result (Option RowVal) Stop → S → Type 0} {book_of : S → Option Rows} {frame : Frame} {reply : T → ReplyBody} {rows : Recording S}
    {said : ReplyBody} {value : T} → Follows frame rows.reads rows.writes (Answer said []) → reply value ≡ said → DecidesByTable answers book_of frame reply rows rows (Ok value)
answers_with_none follows given = answers_with follows refl follows.unput given
