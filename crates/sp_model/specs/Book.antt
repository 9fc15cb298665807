-- What a world answers.
use Rattle.std.specs.Prelude.{ℕ, List}
use Rattle.serde_json.specs.Data.{Data}
use Rattle.sp_model.specs.declared.call.CallKey.{CallKey}
use Rattle.sp_model.specs.declared.call.Reply.{Reply}
use Rattle.sp_model.specs.declared.call.Version.{Version}

-- the reply to each call, the version of each connection at each tick, and each connection's declaration
pub record Book : Type 0 where
  pub reply : CallKey → Reply
  pub version : List ℕ → ℕ → Version
  pub declaration : List ℕ → Data
