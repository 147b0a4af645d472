-- What the passes keep, by number.
use Rattle.std.specs.Prelude.{ℕ, max, List, [], ◌∷◌, if◌then◌else◌}
use Rattle.indexmap.specs.IndexMap.{IndexMap, get}
use Rattle.rss_names.specs.declared.service.Key.{Key}
use Rattle.rss_names.specs.Services.{same_key}
use Rattle.pipeline_lang.specs.declared.script.Expr.{Expr}
use Rattle.history_index.specs.declared.messages.MessageKey.{MessageKey}
use Rattle.history_index.specs.Kept.{key_of_message, same_message}
use Rattle.rss_check.specs.declared.table.KeyNumber.{KeyNumber}
use Rattle.rss_check.specs.declared.causal.StageTops.{StageTops}
use Rattle.rss_check.specs.declared.timely.KeyTops.{KeyTops}
use Rattle.rss_check.specs.Places.{number_or_zero, kept}
use Rattle.rss_check.specs.Table.{number_of_key, same_number}
use Rattle.rss_check.specs.Tops.{Tops}
use Rattle.rss_check.specs.Bad.{Latest, greatest_of}

-- the number that is kept of a message, 0 where none is
abbrev pub kept_of_message : {S : Type 0} → IndexMap MessageKey ℕ S → MessageKey → ℕ
kept_of_message map key = number_or_zero (get same_message map key)

-- the number that is kept of a key, 0 where none is
abbrev pub kept_of_key : {S : Type 0} → IndexMap KeyNumber ℕ S → KeyNumber → ℕ
kept_of_key map key = number_or_zero (get same_number map key)

-- the greatest places behind stages and messages that are kept
abbrev pub tops_of : StageTops → Tops
tops_of tops = record {
  stage = kept tops.stages;
  message = λ token. kept_of_message tops.messages (key_of_message token);
}

-- the greatest places of ended mutations that are kept
abbrev pub latest_of : KeyTops → Latest
latest_of tops = record {
  any = tops.any;
  written = λ key. kept_of_key tops.keys (number_of_key key);
}

-- the greatest place for one of some keys that is kept
abbrev pub greatest_by : {S : Type 0} → IndexMap KeyNumber ℕ S → List Key → ℕ
greatest_by map keys = greatest_of (λ key. kept_of_key map (number_of_key key)) keys

-- what the greatest place for a key is after a place is one for the keys of these writes
abbrev pub raised_by : ℕ → Key → List (Key × Expr ℕ) → ℕ → ℕ
raised_by top key [] place = top
raised_by top key (write ∷ writes) place =
    raised_by (max top (if same_key key write.0 then place else 0)) key writes place
