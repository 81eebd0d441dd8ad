pub mod JournaledLemmas
