-- Pieces of text behind one another, and texts with `, ` between them.
use Rattle.std.proofs.Common.{◌≡◌, ℕ, List, [], ◌∷◌, ◌++◌, map, append-nil, sym, ap, ◌∙◌, codes}
use Rattle.std.proofs.lemmas.List.{append_assoc}
use Rattle.pipeline_lang.specs.declared.config.Config.{Config}
use Rattle.rss_names.specs.declared.service.Key.{Key}
use Rattle.rss_model.specs.declared.op.Shown.{Shown}
use Rattle.rss_machine.specs.ReportText.{joined, shown_text, written_text, reads_text}
use Rattle.report_lines.specs.Pieces.{behind_commas, more_reads, more_writes}

-- a piece behind what was written, and a further one
pub two : (out a b x : List ℕ) → x ≡ out ++ a → x ++ b ≡ out ++ (a ++ b)
two out a b x e = ap (λ (text : List ℕ). text ++ b) e ∙ append_assoc out a b

pub three : (out a b c x y : List ℕ) → x ≡ out ++ a → y ≡ x ++ b → y ++ c ≡ out ++ (a ++ (b ++ c))
three out a b c x y e f = two x b c y f ∙ two out a (b ++ c) x e

-- the first, and `, ` before each of the others
pub joined_behind : (t : List ℕ) (texts : List (List ℕ)) → joined (t ∷ texts) ≡ t ++ behind_commas texts
joined_behind t [] = sym (append-nil t)
joined_behind t (u ∷ texts) = ap (λ (rest : List ℕ). t ++ codes ", " ++ rest) (joined_behind u texts) ∙ append_assoc t (codes ", ") (u ++ behind_commas texts)

-- what was read, the first and the others
pub reads_behind : (c : Config) (reply : List Shown) (first : Shown) (rest : List Shown) → reply ≡ first ∷ rest → codes " " ++ (shown_text c first ++ more_reads c rest) ≡ reads_text c reply
reads_behind c reply first rest e =
    ap (λ (text : List ℕ). codes " " ++ text) (sym (joined_behind (shown_text c first) (map (shown_text c) rest))) ∙ ap (reads_text c) (sym e)

-- what was written, the first and the others
pub writes_behind : (c : Config) (writes : List (Key × ℕ)) (first : Key × ℕ) (rest : List (Key × ℕ)) → writes ≡ first ∷ rest → written_text c first ++ more_writes c rest ≡ joined (map (written_text c) writes)
writes_behind c writes first rest e =
    sym (joined_behind (written_text c first) (map (written_text c) rest)) ∙ ap (λ (ws : List (Key × ℕ)). joined (map (written_text c) ws)) (sym e)
