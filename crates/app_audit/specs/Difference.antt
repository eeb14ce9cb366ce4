-- What is the first to differ, of replies and of books.
use Rattle.std.specs.Prelude.{◌≡◌, ◌≢◌, ℕ, ◌<◌, List, length, take}
use Rattle.std.specs.declared.cmp.Ordering.TheVariants.{Less}
use Rattle.std.specs.List.{slice_get}
use Rattle.std.specs.FinMap as map
use Rattle.issuer_words.specs.Words.{ReplyBody, RowKey, Rows, key_cmp}

-- the reply at this place isn't the right one, and all before it are
pub record IsFirstDifference (replies right : List ReplyBody) (place : ℕ) : Type 0 where
  pub within : place < length right
  pub before : take place replies ≡ take place right
  pub here : slice_get replies place ≢ slice_get right place

-- The row of this key isn't the right one, or is on one side alone, and those of all lesser keys are right.
pub record IsLeastDifference (book right : Rows) (key : RowKey) : Type 0 where
  pub here : map.get book key ≢ map.get right key
  pub below : (lesser : RowKey) → key_cmp lesser key ≡ Less → map.get book lesser ≡ map.get right lesser
