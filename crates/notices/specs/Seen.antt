-- What contracts see of a vector of event notices.
use Rattle.std.specs.Prelude.{ℕ, List}
use Rattle.notices.specs.declared.notice.Notice.{Notice}

-- the notices in their order, and the room: processes below it can have a notice
pub record NoticeList : Type 0 where
  pub notices : List Notice
  pub room : ℕ
