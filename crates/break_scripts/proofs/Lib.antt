mod ScriptLemmas
mod LineLemmas
