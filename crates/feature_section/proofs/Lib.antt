mod Told
mod Put
mod Written
mod UnionLaws
mod ConflictLaws
mod Utf8
