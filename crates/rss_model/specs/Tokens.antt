-- tests on tokens
use Rattle.std.specs.Prelude.{Bool, false, ◌&&◌, ◌==◌}
use Rattle.rss_model.specs.declared.history.Token.{Token}
use Rattle.rss_model.specs.declared.history.Token.TheVariants.{Spawn, Chunk, Exit}

-- whether two tokens are the same
abbrev pub same_token : Token → Token → Bool
same_token (Spawn s) (Spawn t) = s == t
same_token (Spawn s) (Chunk q n) = false
same_token (Spawn s) (Exit t) = false
same_token (Chunk p m) (Spawn t) = false
same_token (Chunk p m) (Chunk q n) = p == q && m == n
same_token (Chunk p m) (Exit t) = false
same_token (Exit s) (Spawn t) = false
same_token (Exit s) (Chunk q n) = false
same_token (Exit s) (Exit t) = s == t
