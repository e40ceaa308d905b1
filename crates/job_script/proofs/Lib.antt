mod PathLaws
mod WordLaws
mod GrammarLaws
mod ScriptLaws
