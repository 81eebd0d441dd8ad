pub mod CodePage
