-- Laws of the way along a piece: what was written so far, and the counts behind it.
-- Assumes nothing.
use Rattle.std.proofs.Common.{◌≡◌, ℕ, ◌+◌, ◌%◌, ◌^◌, ◌<◌, ◌≤◌, true, List, [], ◌++◌, length, sym, refl, ap, ◌∙◌}
use Rattle.pieces.specs.Found.{Found}
use Rattle.pieces.specs.declared.Standing.{Standing}
use Rattle.pieces.specs.Limit.{Part}
use Rattle.pieces.specs.Steps.{Steps, found_parts}
use Rattle.pieces.proofs.Walks.{Along, along_start, along_turn, along_end, turn_on}
use Rattle.text.specs.declared.Put.{Put}
use Rattle.text.specs.Put.{Puts}
use Rattle.text.proofs.Laws.{puts_then, puts_same, puts_none, said_from_start, wrote_from_start}
use Rattle.salvaging.specs.declared.Salvaging.{Salvaging}
use Rattle.salvaging.specs.declared.Tally.{Tally}
use Rattle.salvaging.specs.Taking.{
  octets_by,
  text_by,
  tally_by,
  Tells,
  piece_octets,
  piece_text,
  last_text,
  end_tally,
  Takes,
  Ends,
}
use Rattle.salvaging.proofs.Texts.{octets_joined, text_joined, tally_joined}

-- nothing is written yet
abbrev pub none : Put
none = record { octets = 0; whole = true }

-- along a piece: the parts so far, what was written of them into each run, and the counts behind them
pub record Going (from : Standing) (t₀ : Tally) (lent piece out₀ notes₀ : List ℕ) (s : Standing) (t : Tally) (held out notes : List ℕ)
    (saved noted : Put) (place : ℕ)
    : Type 0
  where
    pub parts : List Part
    pub along : Along from lent piece place s held parts
    pub saves : Puts out₀ none out saved (octets_by t₀ parts)
    pub notes_it : Puts notes₀ none notes noted (text_by t₀ parts)
    pub counts : t ≡ tally_by t₀ parts
    pub same_out : length out ≡ length out₀
    pub same_notes : length notes ≡ length notes₀

module _ {from : Standing} {t₀ : Tally} {lent piece out₀ notes₀ : List ℕ} where
  pub going_start : length lent ≡ 49 → Going from t₀ lent piece out₀ notes₀ from t₀ lent out₀ notes₀ none none 0
  unfolding octets_by text_by tally_by
  going_start size =
      record {
        parts = [];
        along = along_start from lent piece size;
        saves = puts_none out₀ none;
        notes_it = puts_none notes₀ none;
        counts = refl;
        same_out = refl;
        same_notes = refl;
      }

  pub going_turn : {s : Standing} {t t₁ : Tally} {held now out out₁ notes notes₁ : List ℕ} {saved saved₁ noted noted₁ : Put} {place : ℕ} {f : Found}
      → Going from t₀ lent piece out₀ notes₀ s t held out notes saved noted place → place < length piece → Steps s held piece place f now
      → Tells t (found_parts f now piece place) out saved out₁ saved₁ notes noted notes₁ noted₁ t₁
      → length out₁ ≡ length out → length notes₁ ≡ length notes
      → Going from t₀ lent piece out₀ notes₀ f.standing t₁ now out₁ notes₁ saved₁ noted₁ f.next
  going_turn {now = now} {place = place} {f = f} g here step told same_out same_notes =
      let found : List Part = found_parts f now piece place in
      record {
        parts = g.parts ++ found;
        along = along_turn g.along here step;
        saves = puts_same
            (ap (λ (u : Tally). octets_by t₀ g.parts ++ octets_by u found) g.counts ∙ sym (octets_joined t₀ g.parts found))
            (puts_then g.saves told.saves);
        notes_it = puts_same
            (ap (λ (u : Tally). text_by t₀ g.parts ++ text_by u found) g.counts ∙ sym (text_joined t₀ g.parts found))
            (puts_then g.notes_it told.notes_it);
        counts = told.counts ∙ ap (λ (u : Tally). tally_by u found) g.counts ∙ sym (tally_joined t₀ g.parts found);
        same_out = same_out ∙ g.same_out;
        same_notes = same_notes ∙ g.same_notes;
      }

  pub going_on : {s : Standing} {t : Tally} {held now out notes : List ℕ} {saved noted : Put} {place : ℕ} {f : Found}
      → Going from t₀ lent piece out₀ notes₀ s t held out notes saved noted place → place < length piece → Steps s held piece place f now
      → (place < f.next) × (f.next ≤ length piece)
  going_on g here step = turn_on g.along here step

pub going_end : (v : Salvaging) {lent piece out₀ notes₀ held out notes : List ℕ} {s : Standing} {t : Tally} {saved noted : Put} {place octets : ℕ}
    → Going v.standing v.tally lent piece out₀ notes₀ s t held out notes saved noted place → length piece ≤ place
    → octets ≡ (v.octets + length piece) % 2 ^ 64
    → Takes v lent piece out₀ notes₀
    (record { saved = saved; noted = noted; salvaging = record { standing = s; octets = octets; tally = t } }) held out notes
going_end v {lent} {piece} {out₀} {notes₀} g end sum =
    let ends = along_end g.along end in
    let all-out : octets_by v.tally g.parts ≡ piece_octets v lent piece = ap (octets_by v.tally) ends.1 in
    let all-notes : text_by v.tally g.parts ≡ piece_text v lent piece = ap (text_by v.tally) ends.1 in
    let all_Saved = puts_same all-out g.saves in
    let all_Noted = puts_same all-notes g.notes_it in
    record {
      saved = said_from_start all_Saved;
      noted = said_from_start all_Noted;
      wrote_out = wrote_from_start all_Saved;
      wrote_notes = wrote_from_start all_Noted;
      goes_on = λ i. record {
        standing = (ends.0 i).standing;
        octets = sum i;
        tally = (g.counts ∙ ap (tally_by v.tally) ends.1) i;
      };
      holds = λ i. (ends.0 i).held;
    }

-- at the log's end
pub ends_with : (v : Salvaging) {held notes notes₁ : List ℕ} {noted : Put} {t : Tally} → t ≡ end_tally v held
    → Puts notes none notes₁ noted (last_text v.octets t) → Ends v held notes noted notes₁
ends_with v is puts =
    let all = puts_same (ap (last_text v.octets) is) puts in
    record { noted = said_from_start all; wrote_notes = wrote_from_start all }
