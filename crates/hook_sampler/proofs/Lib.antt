pub mod HooksLaws
