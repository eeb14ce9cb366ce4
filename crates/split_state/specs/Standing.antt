-- A ledger, and what its seat at the cursors published to the workers.
use Rattle.std.specs.Prelude.{◌≡◌, ℕ, ◌≤◌, true, length, refl}
use Rattle.std.specs.Coded.{Coded, code_by, coded×, coded_ℕ}
use Rattle.atomic_table.specs.Seated.{TableId}
use Rattle.split_state.specs.declared.seat_view.SeatView.{SeatView}
use Rattle.split_state.specs.Progress.{Progress, further}

-- how far the ledger is, which cursors its seat is of, and what done was raised to
pub record Standing : Type 0 where
  pub ledger : Progress
  pub table : TableId
  pub published : ℕ

-- the seat may raise done, of cursors for as many messages as there are bodies, and raised it to no more than is committed
pub record IsPublisher (p : Progress) (seat : SeatView) : Type 0 where
  pub publishes : seat.publishes ≡ true
  pub messages : seat.messages ≡ length p.frames
  pub behind : seat.seen ≤ p.count

-- one more message is committed
abbrev pub advanced : Standing → Standing
advanced s = record { ledger = further s.ledger; table = s.table; published = s.published }

-- done is raised to what is committed
abbrev pub told : Standing → Standing
told s = record { ledger = s.ledger; table = s.table; published = s.ledger.count }

-- a standing is stored as its parts
abbrev pub standing_code : Coded Progress → Coded TableId → Coded Standing
standing_code progress table =
    code_by (Progress × (TableId × ℕ)) (coded× progress (coded× table coded_ℕ))
    (λ s. (s.ledger, (s.table, s.published))) (λ p. record { ledger = p.0; table = p.1.0; published = p.1.1 }) (λ _. refl)
