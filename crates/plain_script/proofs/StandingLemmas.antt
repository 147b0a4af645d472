-- What stands behind one more entry.
use Rattle.std.proofs.Common.{◌≡◌, ◌∙◌, sym, ap, ℕ, ◌<◌, ◌+◌, List, length, get_or, refl, add-one}
use Rattle.std.proofs.lemmas.List.{get_or_default}
use Rattle.pipeline_lang.specs.declared.config.Config.{Config}
use Rattle.rss_model.specs.declared.history.Entry.{Entry}
use Rattle.rss_model.specs.declared.history.Entry.TheVariants.{Over}
use Rattle.rss_model.specs.declared.history.How.TheVariants.{Exited}
use Rattle.rss_model.specs.History.{entry_at}
use Rattle.rss_model.specs.Walk.{Walk}
use Rattle.plain_script.specs.declared.told.Told.{Told}
use Rattle.plain_script.specs.Standing.{next_table, told_by, Standing, after_entry, standing}

pub standing_more : (config : Config) (h : List Entry) (n : ℕ) →
    standing config h (n + 1) ≡ after_entry config h n (standing config h n)
unfolding standing
standing_more config h n = rw add-one refl

pub next_stands : (config : Config) (h : List Entry) (n : ℕ) (table next : List (List Walk)) (told : List Told) →
    table ≡ (standing config h n).table → told ≡ (standing config h n).told →
    next ≡ next_table config h n told 0 table → next ≡ (standing config h (n + 1)).table
next_stands config h n table next told e f g =
    g ∙ ap (λ t. next_table config h n t 0 table) f ∙
    ap (next_table config h n (standing config h n).told 0) e ∙
    ap (λ (s : Standing). s.table) (sym (standing_more config h n))

-- the entry that was read is the one at the place
pub entry_is : (h : List Entry) (n : ℕ) (e : Entry) → n < length h → e ≡ get_or h n e → e ≡ entry_at h n
entry_is h n e l f = f ∙ get_or_default h n e (Over 0 Exited) l

pub more_told : (config : Config) (h : List Entry) (n : ℕ) (table : List (List Walk)) (told more : List Told) (e : Entry) →
    n < length h → e ≡ get_or h n e →
    table ≡ (standing config h n).table → told ≡ (standing config h n).told →
    more ≡ told_by config h table told e → more ≡ (standing config h (n + 1)).told
more_told config h n table told more e l i f g t =
    t ∙ ap (told_by config h table told) (entry_is h n e l i) ∙
    ap (λ x. told_by config h table x (entry_at h n)) g ∙
    ap (λ x. told_by config h x (standing config h n).told (entry_at h n)) f ∙
    ap (λ (s : Standing). s.told) (sym (standing_more config h n))
