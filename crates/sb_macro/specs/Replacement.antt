-- What stands in place of a macro's name (C99 6.10.3.1, 6.10.3.4).
use Rattle.std.specs.Prelude.{ℕ, Bool, false, List, [], ◌∷◌, ◌++◌, Option, Some, None, map, unwrap_or, slice_get}
use Rattle.std.specs.List.{flat_map}
use Rattle.sb_base.specs.declared.interning.Name.{Name}
use Rattle.sb_base.specs.declared.refusals.Place.{Place}
use Rattle.sb_macro.specs.declared.stored.Part.{Part}
use Rattle.sb_macro.specs.Macros.{Macro, param_of}
use Rattle.sb_macro.specs.Tokens.{Tok, all_names}

-- a piece of a replacement list, at the place of the replaced name
abbrev pub part_token : Place → List Name → Part → Tok
part_token place hidden part = record {
  piece = record { kind = part.kind; text = part.text; place = place; first = false; spaced = part.spaced };
  hidden = hidden;
}

-- a token of an argument, at the place of the replaced name
abbrev pub argument_token : Place → List Name → Bool → Tok → Tok
argument_token place hidden spaced t = record {
  piece = record { kind = t.piece.kind; text = t.piece.text; place = place; first = false; spaced = spaced };
  hidden = all_names t.hidden hidden;
}

-- an expanded argument in place of its parameter: its first token has the space of the parameter
abbrev pub argument : Place → List Name → Bool → List Tok → List Tok
argument place hidden spaced [] = []
argument place hidden spaced (t ∷ ts) = argument_token place hidden spaced t ∷ map (λ u. argument_token place hidden u.piece.spaced u) ts

abbrev pub standing_at : Place → List Name → List (List Tok) → Part → Option ℕ → List Tok
standing_at place hidden fulls part (Some k) = argument place hidden part.spaced (unwrap_or (slice_get fulls k) [])
standing_at place hidden fulls part None = part_token place hidden part ∷ []

-- what stands in place of one piece of the replacement list, where these are the expanded arguments
abbrev pub standing : Macro → List (List Tok) → Place → List Name → Part → List Tok
standing m fulls place hidden part = standing_at place hidden fulls part (param_of m.params part.text)

-- the tokens once the first stands as the replaced name did
abbrev pub with_lead : Bool → Bool → List Tok → List Tok
with_lead first spaced [] = []
with_lead first spaced (t ∷ ts) = record {
  piece = record { kind = t.piece.kind; text = t.piece.text; place = t.piece.place; first = first; spaced = spaced };
  hidden = t.hidden;
} ∷ ts

-- the names that the tokens of a replacement may no longer expand, besides their own
abbrev pub hidden_by : Macro → Tok → List Name
hidden_by m t = t.hidden ++ m.name ∷ []

-- what stands in place of the name t of the macro, where these are the expanded arguments
abbrev pub replacement : Macro → List (List Tok) → Tok → List Tok
replacement m fulls t = with_lead t.piece.first t.piece.spaced (flat_map (standing m fulls t.piece.place (hidden_by m t)) m.body)
